-- The one setting of no weight. Assumes nothing.
use Rattle.gate_sums.specs.SumLaws.{sums_one}
use Rattle.gate_sums.proofs.unchecked.table.Goals as goal

pub loop-bit-init : goal.loop-bit-init
loop-bit-init c = sums_one c.args.weights.now
