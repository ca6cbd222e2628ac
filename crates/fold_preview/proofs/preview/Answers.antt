-- A broken record is refused. Assumes nothing.
use Rattle.std.proofs.Common.{rules, sym, ◌∙◌}
use Rattle.refusals.specs.Numbers.{number_of}
use Rattle.fold_preview.specs.PreviewLaws.{preview_broken}
use Rattle.fold_preview.proofs.preview.Goals as goal

pub returns-then-not-is_sound : goal.returns-then-not-is_sound
unfolding number_of
returns-then-not-is_sound c = c.report.ensures ∙ sym (preview_broken c.args.network c.args.s (search rules))
