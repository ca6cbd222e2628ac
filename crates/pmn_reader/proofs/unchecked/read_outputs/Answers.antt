use Rattle.std.proofs.Common.{arith, sym, ap, ◌∙◌}
use Rattle.network.specs.Limits.{gate_signal}
use Rattle.refusals.specs.Numbers.{number_of}
use Rattle.pmn_reader.proofs.OutputsLoop.{outputs_stray, outputs_got}
use Rattle.pmn_reader.proofs.unchecked.read_outputs.Goals as goal

pub returns-then-not-is_gate : goal.returns-then-not-is_gate
unfolding number_of
returns-then-not-is_gate c =
    let h = c.args.head in
    outputs_stray c.loop-driver.invariant (omega arith) c.in_ok-signal.ensures
    (ap (gate_signal h.inputs h.gates) (sym c.from.ensures) ∙ sym c.if-not-is_gate.ensures)

pub loop-driver-preserved : goal.loop-driver-preserved
loop-driver-preserved c =
    let h = c.args.head in
    outputs_got c.loop-driver.invariant (omega arith) c.in_ok-signal.ensures
    (ap (gate_signal h.inputs h.gates) (sym c.from.ensures) ∙ sym c.if-not-is_gate.ensures)
