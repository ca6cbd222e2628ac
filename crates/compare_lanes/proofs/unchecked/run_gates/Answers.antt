-- One gate more.
use Rattle.std.proofs.Common.{arith, ◌+◌}
use Rattle.compare_theory.specs.Tables.{joint_of}
use Rattle.compare_lanes.specs.LaneLaws.{lanes_put}
use Rattle.compare_lanes.proofs.RunLaws.{left_next, left_all}
use Rattle.compare_lanes.proofs.unchecked.run_gates.Goals as goal

pub loop-g-preserved : goal.loop-g-preserved
loop-g-preserved c =
    let J = joint_of c.args.joint.now in
    let left = c.loop-g.invariant in
    left_next J left (omega arith) (lanes_put (J.inputs + c.loop-g.g) left.masked (omega arith) c.gate_row.ensures)

pub returns : goal.returns
returns c = left_all (joint_of c.args.joint.now) c.loop-g.invariant c.loop-g-test.false
