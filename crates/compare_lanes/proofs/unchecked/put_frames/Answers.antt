-- One input more.
use Rattle.std.proofs.Common.{arith}
use Rattle.compare_lanes.specs.LaneLaws.{lanes_put}
use Rattle.compare_lanes.proofs.RunLaws.{frames_next}
use Rattle.compare_lanes.proofs.unchecked.put_frames.Goals as goal

pub loop-i-preserved : goal.loop-i-preserved
loop-i-preserved c = frames_next c.loop-i.invariant (lanes_put c.loop-i.i c.loop-i.invariant.masked (omega arith) c.frame_row.ensures)
