-- The loop's invariant: the rest of the list leads from here to the state after the whole list, and the answers of the calls before are
-- stored. Assumes nothing.
use Rattle.std.specs.Prelude.{◌*◌, length}
use Rattle.std.proofs.Common.{ap, ◌∙◌, arith}
use Rattle.std.proofs.Math.Seq.{paste}
use Rattle.network.specs.Record.{layout}
use Rattle.call_theory.specs.Steps.{State}
use Rattle.call_theory.specs.Calls.{calls}
use Rattle.call_numbers.specs.Numbers.{calls_in}
use Rattle.call_numbers.specs.NumberLaws.{count_calls}
use Rattle.call_runs.specs.Runs.{answers_of}
use Rattle.call_lists.proofs.RunTurns.{began_came, began_state, reached_none, reached_end, answered_none, answered_next, answered_end}
use Rattle.call_lists.proofs.unchecked.run_storing.Goals as goal

pub loop-i-init : goal.loop-i-init
loop-i-init c =
    let ns = c.args.numbers.now in
    (reached_none ns (began_came c.args.network c.requires.holds_sound c.just_read-held.ensures), answered_none ns _ c.args.answers.now)

pub step_in-answer-requires-clause-from_read : goal.step_in-answer-requires-clause-from_read
step_in-answer-requires-clause-from_read c = c.loop-i.invariant.0.came

pub step_in-answer-requires-clause-i_in_bounds : goal.step_in-answer-requires-clause-i_in_bounds
step_in-answer-requires-clause-i_in_bounds c = omega (arith, c.loop-i-test.true)

pub put_answer-requires : goal.put_answer-requires
put_answer-requires c =
    let ns = c.args.numbers.now in
    omega (arith, c.loop-i.invariant.1.long, count_calls ns c.requires.numbers_value, c.requires.numbers_in_bounds, c.loop-i-test.true)

pub loop-i-preserved : goal.loop-i-preserved
loop-i-preserved c =
    let ns = c.args.numbers.now in
    let l = c.loop-i in
    answered_next _ ns l.i l.invariant.0 l.invariant.1 (omega (arith, c.loop-i-test.true))
    (omega (arith, count_calls ns c.requires.numbers_value, c.requires.numbers_in_bounds, c.loop-i-test.true)) c.step_in-answer.ensures c.put_answer.ensures

pub returns-clause-value : goal.returns-clause-value
returns-clause-value c =
    let ns = c.args.numbers.now in
    reached_end _ ns c.loop-i.i c.loop-i.invariant.0 c.requires.numbers_value c.loop-i-test.false
    ∙ ap (λ (q : State). layout (calls q (calls_in ns)).net) (began_state c.args.network c.requires.holds_sound c.just_read-held.ensures)

pub returns-clause-answers_after : goal.returns-clause-answers_after
returns-clause-answers_after c =
    let ns = c.args.numbers.now in
    answered_end _ ns c.loop-i.i c.loop-i.invariant.0 c.loop-i.invariant.1
    (omega (arith, count_calls ns c.requires.numbers_value, c.loop-i-test.false, c.loop-i.auto.i-end))
    ∙ ap (λ (q : State). paste c.args.answers.now 1 (answers_of q (calls_in ns)) (4 * length (calls_in ns)))
    (began_state c.args.network c.requires.holds_sound c.just_read-held.ensures)
