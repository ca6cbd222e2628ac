-- The merges into the readers, then the drop (ReaderLaws). Assumes nothing.
use Rattle.std.proofs.Common.{arith}
use Rattle.basics.specs.TestLaws.{T_is}
use Rattle.network.specs.Limits.{is_gate}
use Rattle.network.specs.LimitLaws.{has_of}
use Rattle.network.specs.Record.{net_of, sound_record}
use Rattle.network.specs.RecordLaws.{gate_number, row_gate_at}
use Rattle.network.specs.SoundLaws.{sized_of}
use Rattle.call_steps.proofs.ReaderLaws.{drop_last}
use Rattle.call_steps.proofs.unchecked.enter_collapse.Goals as goal

pub overflow_cast-u : goal.overflow_cast-u
overflow_cast-u c =
    let n = c.args.network.now in
    omega (arith, gate_number n c.args.u c.requires, (sized_of n c.requires.sound).few_inputs)

pub overflow_sub-g : goal.overflow_sub-g
overflow_sub-g c = omega (arith, gate_number c.args.network.now c.args.u c.requires)

pub enter_gate-requires : goal.enter_gate-requires
enter_gate-requires c = omega (arith, gate_number c.args.network.now c.args.u c.requires)

pub returns : goal.returns
returns c =
    let n = c.args.network.now in
    let u = c.args.u in
    let has = has_of (net_of n) u (T_is (is_gate (net_of n) u) c.requires.gate) in
    let row = row_gate_at n u (T_is (sound_record n) c.requires.sound) has in
    drop_last n u c.args.journal.now c.enter_readers.ensures (rw row at c.enter_gate.ensures)
