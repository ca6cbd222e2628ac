-- A refused collapse is the answer; the report of the record that an accepted one leaves is the preview (PreviewLaws). Assumes nothing.
use Rattle.std.proofs.Common.{sym, ap, ◌∙◌}
use Rattle.std.proofs.lemmas.Result.{err_from_is_err_and}
use Rattle.fold_preview.specs.PreviewLaws.{preview_refused, preview_sound, preview_shown, reported_code}
use Rattle.network_report.specs.declared.SizeReport.{SizeReport}
use Rattle.fold_preview.proofs.unchecked.size_after.Goals as goal

pub returns-in_err-pairs-clause-size : goal.returns-in_err-pairs-clause-size
returns-in_err-pairs-clause-size c =
    let a = c.args in
    let p = err_from_is_err_and c.from_residual.result c.from_residual.ensures.1 in
    rw (p.1, p.2) (sym (preview_refused a.network.now a.s c.requires _ (c.collapse_pairs.ensures.refuses _ c.in_err-pairs.was)))

pub collapsed_size-requires-clause-collapses : goal.collapsed_size-requires-clause-collapses
collapsed_size-requires-clause-collapses c = c.collapse_pairs.ensures.folds _ c.in_ok-pairs.was

pub collapsed_size-requires-clause-sound : goal.collapsed_size-requires-clause-sound
collapsed_size-requires-clause-sound c =
    preview_sound c.args.network.now c.args.s c.requires _ (c.collapse_pairs.ensures.accepts _ c.in_ok-pairs.was)

pub returns-clause-size : goal.returns-clause-size
returns-clause-size c =
    let a = c.args in
    c.collapsed_size.ensures ∙ sym (preview_shown a.network.now a.s c.requires _ (c.collapse_pairs.ensures.accepts _ c.in_ok-pairs.was))

pub returns-clause-accepts : goal.returns-clause-accepts
returns-clause-accepts c =
    let a = c.args in
    ap (λ (z : SizeReport). z.code) c.collapsed_size.ensures
    ∙ reported_code _ (preview_sound a.network.now a.s c.requires _ (c.collapse_pairs.ensures.accepts _ c.in_ok-pairs.was))
