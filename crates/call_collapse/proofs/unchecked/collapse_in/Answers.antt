-- The refusal, or the steps entered and the gate collapsed into its readers (CallLaws). Assumes nothing.
use Rattle.std.specs.Prelude.{Ok}
use Rattle.std.proofs.Common.{ap, refl, ◌∙◌}
use Rattle.refusals.specs.NumberLaws.{handed_on}
use Rattle.journal.proofs.AnswerLaws.{whole_network}
use Rattle.journal.proofs.PartsLaws.{left_refused, left_answered}
use Rattle.call_collapse.proofs.CallLaws.{collapse_refused, collapse_entered}
use Rattle.call_collapse.proofs.unchecked.collapse_in.Goals as goal

pub collapse_pairs-requires : goal.collapse_pairs-requires
collapse_pairs-requires c = whole_network c.args.held.now c.requires.whole

pub returns-in_err-pairs : goal.returns-in_err-pairs
returns-in_err-pairs c =
    left_refused (handed_on c.from_residual.ensures.1)
    ∙ collapse_refused c.args.held.now c.requires.whole c.args.s _ (c.in_err-pairs.ensures.refuses _ refl)

pub collapse_entered-requires : goal.collapse_entered-requires
collapse_entered-requires c = c.in_ok-pairs.ensures.folds _ refl

pub returns : goal.returns
returns c =
    let held = c.args.held.now in
    let done = c.collapse_entered.ensures in
    left_answered {r = c.collapse_entered.new.held} (ap Ok c.collapses_made.ensures) done.network_is done.journal_is
    ∙ collapse_entered held c.requires.whole c.args.s _ (c.in_ok-pairs.ensures.accepts _ refl)
