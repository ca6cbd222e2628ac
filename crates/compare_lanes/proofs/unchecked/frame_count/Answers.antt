-- A power of two that fits.
use Rattle.std.proofs.Common.{pow_pos, pow_mono}
use Rattle.compare_lanes.proofs.ReadLaws.{frame_count}
use Rattle.compare_lanes.proofs.unchecked.frame_count.Goals as goal

pub returns : goal.returns
returns c =
    let n = c.args.inputs in
    let e = frame_count n c.requires in
    (e, rw e (pow_pos n), rw e (pow_mono c.requires))
