-- The refusal, or the step entered and the gate removed (CallLaws). Assumes nothing.
use Rattle.std.specs.Prelude.{Ok}
use Rattle.std.proofs.Common.{ap, refl, ◌∙◌, arith}
use Rattle.basics.specs.Refusals.{code_of}
use Rattle.refusals.specs.NumberLaws.{handed_on, number_not_0}
use Rattle.network.specs.declared.GateRecord.{GateRecord}
use Rattle.network_places.specs.PartsLaws.{removed_is}
use Rattle.journal.specs.Journals.{with_step}
use Rattle.journal.proofs.AnswerLaws.{whole_network}
use Rattle.journal.proofs.PartsLaws.{left_refused, left_answered}
use Rattle.call_single.proofs.CallLaws.{drop_refused, drop_entered, place, row_is}
use Rattle.call_single.proofs.unchecked.drop_in.Goals as goal

pub test_drop-requires : goal.test_drop-requires
test_drop-requires c = whole_network c.args.held.now c.requires.whole

pub returns-in_err-test_drop : goal.returns-in_err-test_drop
unfolding code_of
returns-in_err-test_drop c =
    left_refused (handed_on c.from_residual.ensures.1)
    ∙ drop_refused c.args.held.now c.requires.whole c.args.s _ (c.in_err-test_drop.ensures.refuses (number_not_0 _))

pub overflow_sub-g : goal.overflow_sub-g
unfolding code_of
overflow_sub-g c = omega (arith, place c.args.held.now c.args.s (c.in_ok-test_drop.ensures.own refl))

pub overflow_cast-s : goal.overflow_cast-s
unfolding code_of
overflow_cast-s c = omega (arith, place c.args.held.now c.args.s (c.in_ok-test_drop.ensures.own refl))

pub enter_gate-requires : goal.enter_gate-requires
unfolding code_of
enter_gate-requires c = omega (arith, place c.args.held.now c.args.s (c.in_ok-test_drop.ensures.own refl))

pub remove_gate-requires : goal.remove_gate-requires
unfolding code_of
remove_gate-requires c = let p = place c.args.held.now c.args.s (c.in_ok-test_drop.ensures.own refl) in ((omega (arith, p), omega (arith, p)), omega (arith, p))

pub returns : goal.returns
unfolding code_of
returns c =
    let held = c.args.held.now in
    let s = c.args.s in
    let own = c.in_ok-test_drop.ensures.own refl in
    left_answered {r = record { network = c.remove_gate.new.network; journal = c.enter_gate.new.journal }} (ap Ok c.collapses_made.ensures)
    (removed_is c.requires.shape own c.remove_gate.ensures)
    (c.enter_gate.ensures ∙ ap (λ (x : GateRecord). with_step held.journal 1 s x) (row_is held s own))
    ∙ drop_entered held c.requires.whole s _ (c.in_ok-test_drop.ensures.accepts refl)
