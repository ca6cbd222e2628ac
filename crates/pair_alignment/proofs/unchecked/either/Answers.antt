-- A number that is held as 0 is 0.
use Rattle.network.specs.Limits.{is_zero}
use Rattle.basics.specs.ZeroLaws.{zero_held}
use Rattle.pair_alignment.proofs.unchecked.either.Goals as goal

pub returns : goal.returns
unfolding is_zero
returns c = rw (zero_held c.args.x c.ranges.x, zero_held c.args.y c.ranges.y)
