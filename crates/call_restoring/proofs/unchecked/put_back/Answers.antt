-- v is no gate's signal, or the gate is replaced (BackLaws). Assumes nothing.
use Rattle.std.proofs.Common.{◌≡◌, true, sym, ◌∙◌}
use Rattle.network.specs.Limits.{gate_signal}
use Rattle.network.specs.Record.{gate_in}
use Rattle.network.specs.RecordLaws.{gate_signal_lem}
use Rattle.call_restoring.specs.BackLaws.{no_gate_lem, back_no, back_merge}
use Rattle.call_restoring.specs.NewestLaws.{packed_few}
use Rattle.call_restoring.proofs.unchecked.put_back.Goals as goal

pub returns-then-not-is_gate : goal.returns-then-not-is_gate
returns-then-not-is_gate c =
    let n = c.args.network.now in
    let no = no_gate_lem n c.args.v (gate_in c.args.gate) (sym c.is_gate.ensures ∙ c.if-not-is_gate.true) in
    record { value = sym no; network_after = back_no n _ no }

pub replace_gate-result-requires : goal.replace_gate-result-requires
replace_gate-result-requires c =
    let gate : gate_signal c.args.network.now.inputs c.args.network.now.gates c.args.v ≡ true = sym c.is_gate.ensures ∙ c.if-not-is_gate.false in
    (record { sound = c.requires.0; gate = gate_signal_lem c.args.network.now c.args.v ∙ gate }, c.requires.1.row)

pub returns : goal.returns
returns c =
    let a = c.args in
    let back = back_merge a.network.now a.v (gate_in a.gate) _ c.requires.0 (sym c.is_gate.ensures ∙ c.if-not-is_gate.false)
    (packed_few a.gate c.requires.1) c.replace_gate-result.ensures in
    record { value = c.if_sound.ensures.value ∙ back.0; network_after = c.if_sound.ensures.network_after ∙ back.1 }
