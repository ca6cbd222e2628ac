-- All ones keep every bit of the weight, and all zeros none.
use Rattle.frame_lanes.specs.MaskLaws.{kept_is}
use Rattle.frame_lanes.proofs.unchecked.kept.Goals as goal

pub returns : goal.returns
returns c = kept_is c.args.mask c.args.weight c.requires c.ranges.weight
