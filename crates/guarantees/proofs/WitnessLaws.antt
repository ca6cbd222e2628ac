-- A merge with 15 is one of two gates of a sound record, whose distinct signals rise: so the ones of a setting are the signals that it
-- lights. Assumes nothing.
use Rattle.std.proofs.Common.{sym, ◌∙◌, arith}
use Rattle.std.specs.Prelude.{ℕ}
use Rattle.network.specs.Record.{net_of}
use Rattle.fold_theory.specs.Merge.{edge}
use Rattle.fold_witness.specs.declared.Witnessed.{Witnessed}
use Rattle.fold_witness.specs.CallLaws.{disagreeing_edge}
use Rattle.fold_witness.specs.LitLaws.{fewest_lit}
use Rattle.journal.specs.declared.Record.{Record}
use Rattle.journal_calls.specs.AnswerLaws.{merge_number_lem, broken_number}
use Rattle.guarantees.specs.Witnesses.{LightsFewest}
use Rattle.guarantees.proofs.AnswerLaws.{by_count}

pub lights_fewest : (r : Record) (u v k l : ℕ) (w : Witnessed) → LightsFewest r u v k l w
lights_fewest r u v k l w p q other h d = by_count r.journal.count
    (λ few.
    let number = sym (merge_number_lem r u v k l few) ∙ sym p.number_is ∙ q in
    fewest_lit (edge (net_of r.network) u v) (disagreeing_edge r.network u v k l number) k l w.setting (p.shown q) other h d)
    (λ many. absurd (omega (arith, sym (p.number_is ∙ broken_number r u v k l many) ∙ q)))
