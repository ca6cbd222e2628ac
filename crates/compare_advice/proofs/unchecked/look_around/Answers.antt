-- The lanes hold masks at first.
use Rattle.std.proofs.Common.{refl}
use Rattle.compare_lanes.specs.LaneLaws.{masked_none}
use Rattle.compare_advice.proofs.unchecked.look_around.Goals as goal

pub loop-k-init : goal.loop-k-init
loop-k-init c = record { masked = masked_none; looked = record { drivers = refl; outputs = refl } }
