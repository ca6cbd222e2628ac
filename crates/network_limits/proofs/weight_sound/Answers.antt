-- The two tests are those of the definition. Assumes nothing.
use Rattle.std.proofs.Common.{to_z-of_z}
use Rattle.network.specs.Limits.{is_zero}
use Rattle.basics.specs.ZeroLaws.{zero_held}
use Rattle.network_limits.proofs.weight_sound.Goals as goal

pub returns : goal.returns
unfolding is_zero
returns c = rw (c.in_scale.ensures, to_z-of_z c.ranges.z, zero_held c.args.z c.ranges.z)
