-- The threshold rule, at the gate's sum.
use Rattle.std.proofs.Common.{arith, to_z-of_z}
use Rattle.network.specs.Threshold.{bit}
use Rattle.network.specs.Record.{gate_from}
use Rattle.frame_reading.proofs.unchecked.gate_bit.Goals as goal

pub returns : goal.returns
unfolding bit gate_from
returns c = grind (arith, to_z-of_z)
