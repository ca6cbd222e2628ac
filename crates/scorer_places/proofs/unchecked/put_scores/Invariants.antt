use Rattle.scorer_places.specs.Numbers.{CopiedToFront}
use Rattle.scorer_places.proofs.unchecked.put_scores.Given as goal

abbrev pub invariant-loop-i : goal.invariant-loop-i
invariant-loop-i l = CopiedToFront l.scores l.fn.answer l.answer l.i
