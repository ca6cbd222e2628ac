-- The two tests are those of the definition. Assumes nothing.
use Rattle.std.proofs.Common.{to_z-of_z}
use Rattle.gate_margins.specs.Sums.{apart}
use Rattle.gate_margins.proofs.unchecked.clear.Goals as goal

pub returns : goal.returns
unfolding apart
returns c = simp (to_z-of_z c.ranges.floor, to_z-of_z c.ranges.ceiling, to_z-of_z c.ranges.sum)
