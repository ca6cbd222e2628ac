use Rattle.scorer_places.specs.Numbers.{CopiedToFront}
use Rattle.scorer_places.proofs.unchecked.put_felled.Given as goal

abbrev pub invariant-loop-i : goal.invariant-loop-i
invariant-loop-i l = CopiedToFront l.felled l.fn.answer l.answer l.i
