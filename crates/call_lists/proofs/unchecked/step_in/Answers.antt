-- A call on the record of a state that a read and calls lead to is the call on the state. Assumes nothing.
use Rattle.std.proofs.Common.{ap, ◌∙◌}
use Rattle.journal.specs.Answers.{applied}
use Rattle.call_runs.proofs.RunLaws.{came_whole, came_shaped, step_done}
use Rattle.call_lists.proofs.unchecked.step_in.Goals as goal

pub apply_in-requires : goal.apply_in-requires
apply_in-requires c =
    let held = c.args.held.now in
    record { shape = came_shaped held c.requires.from_read; whole = came_whole held c.requires.from_read }

pub returns : goal.returns
returns c =
    let held = c.args.held.now in
    step_done held c.requires.from_read _ (c.apply_in.ensures ∙ ap (applied held) c.call_at.ensures)
