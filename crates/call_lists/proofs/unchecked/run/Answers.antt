-- The loop's invariant: the rest of the list leads from here to the state after the whole list. Assumes nothing.
use Rattle.std.proofs.Common.{ap, ◌∙◌, arith}
use Rattle.network.specs.Record.{layout}
use Rattle.call_theory.specs.Steps.{State}
use Rattle.call_theory.specs.Calls.{calls}
use Rattle.call_numbers.specs.Numbers.{calls_in}
use Rattle.call_lists.proofs.RunTurns.{began_came, began_state, reached_none, reached_next, reached_end}
use Rattle.call_lists.proofs.unchecked.run.Goals as goal

pub loop-i-init : goal.loop-i-init
loop-i-init c = reached_none c.args.numbers.now (began_came c.args.network c.requires.holds_sound c.just_read-held.ensures)

pub step_in-requires-clause-from_read : goal.step_in-requires-clause-from_read
step_in-requires-clause-from_read c = c.loop-i.invariant.came

pub step_in-requires-clause-i_in_bounds : goal.step_in-requires-clause-i_in_bounds
step_in-requires-clause-i_in_bounds c = omega (arith, c.loop-i-test.true)

pub loop-i-preserved : goal.loop-i-preserved
loop-i-preserved c =
    reached_next _ c.args.numbers.now c.loop-i.i c.loop-i.invariant (omega (arith, c.loop-i-test.true)) c.step_in.ensures

pub returns : goal.returns
returns c =
    let ns = c.args.numbers.now in
    reached_end _ ns c.loop-i.i c.loop-i.invariant c.requires.numbers_value c.loop-i-test.false
    ∙ ap (λ (q : State). layout (calls q (calls_in ns)).net) (began_state c.args.network c.requires.holds_sound c.just_read-held.ensures)
