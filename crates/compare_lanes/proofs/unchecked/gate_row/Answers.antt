-- The sums, and then the threshold rule.
use Rattle.std.proofs.Common.{arith, to_z-of_z}
use Rattle.std.specs.Int.{w32}
use Rattle.basics.specs.SizeLaws.{size_fits}
use Rattle.compare_lanes.proofs.RowLaws.{gate_masks_lem}
use Rattle.compare_lanes.proofs.unchecked.gate_row.Goals as goal

pub returns : goal.returns
returns c =
    gate_masks_lem c.row_sums-sums.ensures (to_z-of_z (size_fits w32 _ (omega (arith, c.requires.summable.small 0)))) c.threshold_row.ensures
