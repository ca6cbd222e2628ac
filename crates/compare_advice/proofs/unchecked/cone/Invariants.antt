use Rattle.std.specs.Prelude.{◌+◌, ◌≤◌}
use Rattle.compare_advice.proofs.unchecked.cone.Given as goal

abbrev pub invariant-loop-g : goal.invariant-loop-g
invariant-loop-g l = l.count + l.g ≤ l.joint.gates
