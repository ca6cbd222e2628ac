-- Document 02, No. 2: "Number 13 can then never be given, and this is shown." Nothing is proved here.
use Rattle.std.specs.Prelude.{◌≢◌, ℕ}
use Rattle.call_theory.specs.declared.Call.{Call}
use Rattle.journal.specs.Answers.{applied}
use Rattle.journal.specs.declared.Record.{Record}
use Rattle.journal_calls.specs.Answers.{pair_on, preview_on, merge_number}

-- no call of a list (merge, drop, collapse, sweep, preview, undo), no witness, pair or preview, with any numbers, answers 13; the record may be broken
pub record NeverThirteen (r : Record) : Type 0 where
  pub witnesses : (u v k l : ℕ) → merge_number r u v k l ≢ 13
  pub pairs : (u v : ℕ) → (pair_on r u v).code ≢ 13
  pub previews : (s : ℕ) → (preview_on r s).code ≢ 13
  pub calls : (c : Call) → (applied r c).code ≢ 13
