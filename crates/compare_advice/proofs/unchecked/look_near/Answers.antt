-- The lanes hold masks at first.
use Rattle.compare_lanes.specs.LaneLaws.{masked_none}
use Rattle.compare_advice.proofs.unchecked.look_near.Goals as goal

pub put_near-requires : goal.put_near-requires
put_near-requires c = (masked_none, c.requires.few_inputs)
