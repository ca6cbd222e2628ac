-- The refusals in their order, then the step taken back (UndoneLaws). Assumes nothing.
use Rattle.std.proofs.Common.{◌<◌, sym, ap, ◌∙◌, arith}
use Rattle.std.specs.Prelude.{Ok}
use Rattle.refusals.specs.Numbers.{number_of}
use Rattle.refusals.specs.declared.Refusal.TheVariants.{UnsoundStep}
use Rattle.network.specs.declared.Network.{Network}
use Rattle.call_theory.specs.Calls.{no_figures}
use Rattle.journal.specs.Parts.{refusing}
use Rattle.journal.proofs.PartsLaws.{left_answered}
use Rattle.journal.proofs.AnswerLaws.{whole_network}
use Rattle.call_restoring.specs.BackLaws.{back_no, back_network}
use Rattle.call_undo.specs.UndoneLaws.{undone_empty, undone_stuck, undone_back}
use Rattle.call_undo.proofs.unchecked.undo_in.Goals as goal

pub returns-then-held-eq0 : goal.returns-then-held-eq0
unfolding number_of no_figures
returns-then-held-eq0 c = sym (undone_empty c.args.held.now c.requires.whole c.if-held-eq0.true)

pub take_back-requires : goal.take_back-requires
take_back-requires c = whole_network c.args.held.now c.requires.whole

pub returns-then-not-take_back : goal.returns-then-not-take_back
unfolding number_of no_figures
returns-then-not-take_back c =
    let r = c.args.held.now in
    let some : 0 < r.journal.count = omega (arith, c.if-held-eq0.false) in
    let stuck = sym c.take_back.ensures.value ∙ c.if-not-take_back.true in
    let same = c.take_back.ensures.network_after ∙ sym (back_no r.network _ stuck) in
    ap (λ (n : Network). refusing (number_of UnsoundStep) (record { network = n; journal = r.journal })) same ∙ sym (undone_stuck r c.requires.whole some stuck)

pub returns : goal.returns
unfolding no_figures
returns c =
    let r = c.args.held.now in
    let some : 0 < r.journal.count = omega (arith, c.if-held-eq0.false) in
    let can = sym c.take_back.ensures.value ∙ c.if-not-take_back.false in
    left_answered {r = record { network = c.take_back.new.network; journal = c.remove_newest.new.journal }} (ap Ok c.collapses_made.ensures)
    (c.take_back.ensures.network_after ∙ back_network r.network _ can) c.remove_newest.ensures
    ∙ sym (undone_back r c.requires.whole some can)
