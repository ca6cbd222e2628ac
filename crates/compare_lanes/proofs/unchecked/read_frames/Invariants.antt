use Rattle.std.specs.Prelude.{◌-◌, ◌≤◌}
use Rattle.compare_theory.specs.Tables.{joint_of}
use Rattle.compare_lanes.proofs.ReadLaws.{ReadBefore}
use Rattle.compare_lanes.proofs.unchecked.read_frames.Given as goal

abbrev pub invariant-loop-first : goal.invariant-loop-first
invariant-loop-first l = record {
  below : l.first ≤ 1099511627808;
  read : ReadBefore (joint_of l.joint) l.drivers l.outs l.outputs l.frames l.from l.first l.lanes;
}

abbrev pub decreases-loop-first : goal.decreases-loop-first
decreases-loop-first l = l.end - l.first
