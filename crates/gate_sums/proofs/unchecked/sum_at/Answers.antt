-- Two sums of 8 weights fit 32 bits, and so does their sum. Assumes nothing.
use Rattle.gate_sums.specs.Tables.{sum_from}
use Rattle.gate_sums.specs.SumLaws.{held, place_held, from_small}
use Rattle.gate_sums.proofs.unchecked.sum_at.Goals as goal

pub returns : goal.returns
unfolding sum_from
returns c =
    let sums = c.args.sums.now in
    let small = c.requires.sizes_within in
    simp (place_held sums small, held (sum_from sums c.args.setting) (from_small sums c.args.setting small))
