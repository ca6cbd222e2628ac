-- No gate is left at the end.
use Rattle.std.proofs.Common.{arith}
use Rattle.frame_pass.proofs.SignalLaneLaws.{gate_lanes_none, gate_lanes_next, gate_lanes_all}
use Rattle.frame_pass.proofs.unchecked.run_gates.Goals as goal

pub loop-g-init : goal.loop-g-init
loop-g-init c = gate_lanes_none c.requires.masked

pub loop-g-preserved : goal.loop-g-preserved
loop-g-preserved c = gate_lanes_next c.loop-g.invariant (omega arith) (omega arith) c.put_gate.ensures

pub returns : goal.returns
returns c = gate_lanes_all c.loop-g.invariant (omega arith)
