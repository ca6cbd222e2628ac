use Rattle.compare_lanes.specs.Lanes.{FramesPut}
use Rattle.compare_lanes.proofs.unchecked.put_frames.Given as goal

abbrev pub invariant-loop-i : goal.invariant-loop-i
invariant-loop-i l = FramesPut l.i l.first l.lanes
