-- A preview by its report; every other call by itself. Assumes nothing.
use Rattle.std.proofs.Common.{sym, ap, ◌∙◌}
use Rattle.journal.specs.Answers.{applied}
use Rattle.journal.proofs.AnswerLaws.{whole_network}
use Rattle.call_preview.specs.PreviewLaws.{given_shown}
use Rattle.call_apply.proofs.unchecked.apply_in.Goals as goal

pub preview_in-requires : goal.preview_in-requires
preview_in-requires c = whole_network c.args.held.now c.requires.whole

pub returns-in-Preview : goal.returns-in-Preview
returns-in-Preview c =
    let held = c.args.held.now in
    given_shown held c.requires.shape c.requires.whole _ _ c.preview_in.ensures ∙ ap (applied held) (sym c.in-Preview.is)
