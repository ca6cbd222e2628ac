-- The refusals in their order, then the pairs of the readers (TriedLaws). Assumes nothing.
use Rattle.std.proofs.Common.{rules, sym, arith}
use Rattle.network.specs.RecordLaws.{gate_number}
use Rattle.network.specs.SoundLaws.{sized_of, sound_board}
use Rattle.basics.specs.TestLaws.{T_is}
use Rattle.fold_readers.specs.ArrayLaws.{lent_of}
use Rattle.fold_readers.specs.RecordLaws.{sound_gate}
use Rattle.fold_reader_pairs.specs.TriedLaws.{tried_stranger, tried_output, tried_pairs}
use Rattle.fold_reader_pairs.proofs.unchecked.collapse_pairs.Goals as goal

pub returns-then-not-is_gate : goal.returns-then-not-is_gate
returns-then-not-is_gate c = tried_stranger c.args.network.now c.args.s c.requires (sym c.if-not-is_gate.ensures)

pub is_output-requires : goal.is_output-requires
is_output-requires c = (sized_of c.args.network.now c.requires).few_outputs

pub returns-then-is_output : goal.returns-then-is_output
returns-then-is_output c = tried_output c.args.network.now c.args.s c.requires (sym c.if-not-is_gate.ensures) (sym c.if-is_output.ensures)

pub reader_pairs-requires : goal.reader_pairs-requires
reader_pairs-requires c =
    let r = c.args.network.now in
    let at = gate_number r c.args.s (sound_gate r c.args.s c.requires (sym c.if-not-is_gate.ensures)) in
    (lent_of r (T_is _ c.requires), (at.0, omega (arith, at)), sound_board r c.requires)

pub returns : goal.returns
returns c =
    tried_pairs c.args.network.now c.args.s c.requires (sym c.if-not-is_gate.ensures) (sym c.if-is_output.ensures) c.reader_pairs.result
    c.reader_pairs.ensures (search rules)
