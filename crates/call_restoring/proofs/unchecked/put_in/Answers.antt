-- u has no place, or there is no room, or the gate is put in (BackLaws). Assumes nothing.
use Rattle.std.proofs.Common.{◌≡◌, false, arith, sym, ◌∙◌}
use Rattle.network.specs.Record.{net_of, gate_in}
use Rattle.network.specs.SoundLaws.{sized_of}
use Rattle.call_theory.specs.Steps.{dropping, undoable}
use Rattle.call_restoring.specs.BackLaws.{no_place, no_room, back_no, back_drop}
use Rattle.call_restoring.specs.NewestLaws.{packed_few}
use Rattle.call_restoring.proofs.unchecked.put_in.Goals as goal
use Rattle.call_restoring.proofs.unchecked.put_in.Goals.{then-u-network-via-then-u-network, then-u-network-via-else-u-network+then-network-u, then-u-network-via-else-u-network+else-network-u+then-network-eq128}

pub overflow_add-network : goal.overflow_add-network
overflow_add-network c = let z = sized_of c.args.network.now c.requires.0 in omega (arith, z.few_inputs, z.few_gates)

pub returns-then-u-network : goal.returns-then-u-network
returns-then-u-network c =
    let n = c.args.network.now in
    let g = gate_in c.args.gate in
    let no : undoable (net_of n) (dropping c.args.u g) ≡ false = elim c.then-u-network.branch [
      | then-u-network-via-then-u-network w ↦ no_place n c.args.u g (λ h k. omega arith)
      | then-u-network-via-else-u-network+then-network-u w ↦ no_place n c.args.u g (λ h k. omega arith)
      | then-u-network-via-else-u-network+else-network-u+then-network-eq128 w ↦ no_room n c.args.u g w.if-network-eq128.true
    ] in
    record { value = sym no; network_after = back_no n _ no }

pub insert_gate-result-requires : goal.insert_gate-result-requires
insert_gate-result-requires c =
    let z = sized_of c.args.network.now c.requires.0 in
    (record { sound = c.requires.0; above = omega arith; within = omega arith; room = omega (arith, z.few_gates) }, c.requires.1.row)

pub returns : goal.returns
returns c =
    let a = c.args in
    let n = a.network.now in
    let z = sized_of n c.requires.0 in
    let back = back_drop n a.u (gate_in a.gate) _ c.requires.0 (omega arith, omega arith, omega (arith, z.few_gates))
    (packed_few a.gate c.requires.1) c.insert_gate-result.ensures in
    record { value = c.if_sound.ensures.value ∙ back.0; network_after = c.if_sound.ensures.network_after ∙ back.1 }
