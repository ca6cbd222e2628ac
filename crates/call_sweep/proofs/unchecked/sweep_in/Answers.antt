-- After each collapse the sweep of the record that is reached is the whole sweep, its steps are those left to enter, and what is remembered
-- holds of it (TurnLaws). Assumes nothing.
use Rattle.std.specs.Prelude.{◌≡◌, ℕ, Ok}
use Rattle.std.proofs.Common.{ap, refl, ◌∙◌, arith}
use Rattle.refusals.specs.Numbers.{number_of}
use Rattle.journal.specs.Parts.{counted}
use Rattle.journal.proofs.AnswerLaws.{whole_network}
use Rattle.journal.proofs.PartsLaws.{left_answered}
use Rattle.call_sweep.proofs.CallLaws.{sweep_off, sweep_done}
use Rattle.call_sweep.proofs.TurnLaws.{reached_none, reached_more, reached_settled, reached_last}
use Rattle.call_sweep.proofs.unchecked.sweep_in.Goals as goal

pub returns-then-b-gt128 : goal.returns-then-b-gt128
unfolding number_of
returns-then-b-gt128 c = sweep_off c.args.held.now c.requires.whole c.args.b c.if-b-gt128.true

pub loop-collapses-init : goal.loop-collapses-init
loop-collapses-init c =
    let held = c.args.held.now in
    reached_none held c.args.b held.network.gates (whole_network held c.requires.whole) c.requires.shape

pub lowest_collapsible-requires : goal.lowest_collapsible-requires
lowest_collapsible-requires c = (c.loop-collapses.invariant.whole, c.loop-collapses.invariant.remembered)

pub returns-in-None : goal.returns-in-None
returns-in-None c =
    left_answered {r = c.loop-collapses.held} (ap Ok c.collapses_made.ensures) refl refl
    ∙ reached_settled c.loop-collapses.invariant (c.in-None.ensures.0.none refl)
    ∙ sweep_done c.args.held.now c.requires.whole c.args.b c.if-b-gt128.false

pub collapse_entered-requires : goal.collapse_entered-requires
collapse_entered-requires c = let n = c.in-Some.ensures.0.next _ refl in record { own = n.own; pairs = n.pairs }

pub loop-collapses-preserved : goal.loop-collapses-preserved
loop-collapses-preserved c =
    reached_more c.loop-collapses.invariant _ _ c.loop-collapses-test.true (c.in-Some.ensures.0.next _ refl) (c.in-Some.ensures.1.next _ refl)
    c.collapse_entered.ensures

pub returns : goal.returns
returns c =
    let all : c.args.held.now.network.gates ≡ c.loop-collapses.collapses = omega (arith, c.loop-collapses.auto.collapses-end, c.loop-collapses-test.false) in
    left_answered {r = c.loop-collapses.held} (ap Ok c.collapses_made-2.ensures ∙ ap (λ (n : ℕ). Ok (counted n)) all) refl refl
    ∙ reached_last c.loop-collapses.invariant c.loop-collapses-test.false
    ∙ sweep_done c.args.held.now c.requires.whole c.args.b c.if-b-gt128.false
