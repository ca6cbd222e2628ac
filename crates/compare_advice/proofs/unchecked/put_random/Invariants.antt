use Rattle.compare_lanes.specs.Lanes.{Masked}
use Rattle.compare_advice.proofs.unchecked.put_random.Given as goal

abbrev pub invariant-loop-i : goal.invariant-loop-i
invariant-loop-i l = Masked l.lanes
