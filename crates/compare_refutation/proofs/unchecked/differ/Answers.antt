-- Neither way of being apart is left.
use Rattle.std.proofs.Common.{subst}
use Rattle.compare_theory.specs.Joint.{Refuted}
use Rattle.compare_theory.proofs.DecisionLaws.{never_apart}
use Rattle.compare_refutation.proofs.Turns.{shown_so}
use Rattle.compare_refutation.proofs.unchecked.differ.Goals as goal

pub returns-in-Refuted-clause-shown : goal.returns-in-Refuted-clause-shown
returns-in-Refuted-clause-shown c =
    let one = rw c.in-Refuted.is at c.refute-half.ensures.shown in
    shown_so c.refute.result.ending
    (λ two. never_apart (subst (Refuted _) c.apart_bits.ensures one) (subst (Refuted _) c.apart_bits-in-Refuted.ensures two)) c.refute.ensures.shown
