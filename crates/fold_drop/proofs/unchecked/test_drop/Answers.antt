-- The refusals in their order (DropLaws). Assumes nothing.
use Rattle.std.proofs.Common.{sym, ◌∙◌}
use Rattle.basics.specs.Refusals.{code_of}
use Rattle.refusals.specs.Numbers.{number_of}
use Rattle.network.specs.Record.{net_of}
use Rattle.network.specs.SoundLaws.{sized_of, counted_of}
use Rattle.fold_theory.specs.Sweep.{readers}
use Rattle.fold_drop.proofs.DropLaws.{tried_stranger, tried_read, tried_unread}
use Rattle.fold_drop.proofs.unchecked.test_drop.Goals as goal
use Rattle.fold_drop.proofs.unchecked.test_drop.Goals.{Else-not-is_gate}

pub returns-then-not-is_gate : goal.returns-then-not-is_gate
unfolding code_of number_of
returns-then-not-is_gate c = tried_stranger c.args.network.now c.args.s c.requires (sym c.is_gate.ensures ∙ c.if-not-is_gate.true)

pub count_readers-readers-requires : goal.count_readers-readers-requires
count_readers-readers-requires c = counted_of c.args.network.now c.requires

pub is_output-requires : goal.is_output-requires
is_output-requires c = (sized_of c.args.network.now c.requires).few_outputs

pub returns-then-readers-is_output : goal.returns-then-readers-is_output
unfolding code_of number_of readers net_of
returns-then-readers-is_output c = tried_read c.args.network.now c.args.s c.requires (sym c.is_gate.ensures ∙ c.if-not-is_gate.false)
    (rw (← c.count_readers-readers.ensures, ← c.is_output.ensures) c.if-readers-is_output.true)

pub returns : goal.returns
unfolding code_of number_of readers net_of
returns c = tried_unread c.args.network.now c.args.s c.requires (sym c.is_gate.ensures ∙ c.if-not-is_gate.false)
    (rw (← c.count_readers-readers.ensures, ← c.is_output.ensures) c.if-readers-is_output.false)
