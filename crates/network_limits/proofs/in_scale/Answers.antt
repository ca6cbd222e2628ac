-- The code is the definition. Assumes nothing.
use Rattle.std.proofs.Common.{to_z-of_z}
use Rattle.network.specs.Limits.{in_scale}
use Rattle.network_limits.proofs.in_scale.Goals as goal

pub returns : goal.returns
unfolding in_scale
returns c = rw (c.unsigned_abs.ensures.value, to_z-of_z c.ranges.z)
