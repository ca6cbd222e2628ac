-- A number that is held as 0 is 0. Assumes nothing.
use Rattle.network.specs.Limits.{is_zero}
use Rattle.basics.specs.ZeroLaws.{zero_held}
use Rattle.network_limits.proofs.is_zero.Goals as goal

pub returns : goal.returns
unfolding is_zero
returns c = zero_held c.args.z c.ranges.z
