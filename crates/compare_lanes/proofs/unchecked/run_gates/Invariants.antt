use Rattle.compare_theory.specs.Tables.{joint_of}
use Rattle.compare_lanes.proofs.RunLaws.{GatesLeft}
use Rattle.compare_lanes.proofs.unchecked.run_gates.Given as goal

abbrev pub invariant-loop-g : goal.invariant-loop-g
invariant-loop-g l = GatesLeft (joint_of l.joint) l.fn.lanes l.g l.lanes
