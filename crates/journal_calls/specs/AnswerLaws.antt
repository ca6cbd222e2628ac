-- The test of the journal, and the number of a merge. Assumes nothing.
use Rattle.std.specs.Prelude.{◌≡◌, ℕ, ◌≤◌, ◌<◌, leb}
use Rattle.std.proofs.Common.{ap, ◌∙◌, le-leb}
use mathlib.Core.List.{[]}
use Rattle.std.proofs.lemmas.Bool.{lt-leb}
use Rattle.basics.specs.Refusals.{Answer, refused, code_of}
use Rattle.basics.specs.RefusalLaws.{checks_first, checks_next, checks_none}
use Rattle.fold_theory.specs.Merge.{merge}
use Rattle.journal.specs.Records.{tested}
use Rattle.journal.specs.declared.Record.{Record}
use Rattle.fold_merge.specs.Answers.{on_record, merge_code}
use Rattle.journal_calls.specs.Answers.{merge_number}

module _ {A : Type 0} (r : Record) (a : Answer A) where
  -- a journal that claims more than 64 steps
  pub tested_many : 64 < r.journal.count → tested r a ≡ refused 20
  unfolding tested
  tested_many h = checks_first (leb r.journal.count 64) 20 [] a (lt-leb r.journal.count 64 h)

  -- any other
  pub tested_few : r.journal.count ≤ 64 → tested r a ≡ a
  unfolding tested
  tested_few h = checks_next (leb r.journal.count 64) 20 [] a (le-leb r.journal.count 64 h) ∙ checks_none a

pub merge_number_lem : (r : Record) (u v k l : ℕ) → r.journal.count ≤ 64 → merge_number r u v k l ≡ merge_code r.network u v k l
unfolding merge_number merge_code
merge_number_lem r u v k l h = ap code_of (tested_few r (on_record r.network (λ N. merge N u v k l)) h)

pub broken_number : (r : Record) (u v k l : ℕ) → 64 < r.journal.count → merge_number r u v k l ≡ 20
unfolding merge_number code_of
broken_number r u v k l h = ap code_of (tested_many r (on_record r.network (λ N. merge N u v k l)) h)
