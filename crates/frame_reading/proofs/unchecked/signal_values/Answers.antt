use Rattle.std.proofs.Common.{arith}
use Rattle.frame_reading.proofs.SignalLaws.{gates_next, gates_all}
use Rattle.frame_reading.proofs.unchecked.signal_values.Goals as goal

pub loop-g-preserved : goal.loop-g-preserved
loop-g-preserved c = gates_next _ c.loop-g.invariant (omega arith) (omega arith) c.gate_bit.ensures

pub returns : goal.returns
returns c = gates_all c.loop-g.invariant (omega arith)
