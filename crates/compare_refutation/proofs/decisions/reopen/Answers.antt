-- Each signal looked at stays, resting on nothing at the level or above, or is open.
use Rattle.std.proofs.Common.{refl, inr}
use Rattle.compare_theory.proofs.DecisionLaws.{reopening_next, reopening_all}
use Rattle.compare_refutation.proofs.Turns.{reopening_stays}
use Rattle.compare_refutation.proofs.decisions.reopen.Goals as goal
use Rattle.compare_refutation.proofs.decisions.reopen.Goals.{then-held-k-ne0, else-held-k-ne0}

pub loop-k-preserved : goal.loop-k-preserved
loop-k-preserved c =
    let inv = c.loop-k.invariant in
    elim c.if-held-k-ne0.branch [
      | then-held-k-ne0 w ↦ rw w.held-is (record {
        looked_at = reopening_next c.loop-k.k 2 c.loop-k-test.true inv.looked_at (inr refl);
        rests_same = inv.rests_same;
      })
      | else-held-k-ne0 w ↦ rw w.held-is (record {
        looked_at = reopening_stays c.loop-k.k inv.looked_at (rw inv.rests_same at w.if-held-k-ne0.false);
        rests_same = inv.rests_same;
      })
    ]

pub returns-clause-opened : goal.returns-clause-opened
returns-clause-opened c = reopening_all c.loop-k.k c.loop-k-test.false c.loop-k.invariant.looked_at
