-- The refusal, then the preview of the file's network. Assumes nothing.
use Rattle.std.proofs.Common.{[], ◌∷◌}
use Rattle.basics.specs.RefusalLaws.{refused_one}
use Rattle.pmn_opening.specs.AnswerLaws.{placed}
use Rattle.pmn_opening.specs.OpeningLaws.{file_sound, open_refused}
use Rattle.fold_preview.specs.Files.{preview_places}
use Rattle.fold_preview.specs.FileLaws.{preview_answer}
use Rattle.fold_preview.proofs.files.preview_of_file.Goals as goal

pub returns-then-code-ne0 : goal.returns-then-code-ne0
unfolding preview_places
returns-then-code-ne0 c =
    let p = refused_one c.args.answer.now (open_refused c.refusal-code.ensures _ c.if-code-ne0.true) in
    record { value = p.0; answer_after = p.1 }

pub preview_at-size-requires : goal.preview_at-size-requires
preview_at-size-requires c = file_sound (c.refusal-code.ensures.gives c.if-code-ne0.false)

pub returns : goal.returns
returns c =
    let g = c.preview_at-size in
    let a = c.args in
    let p = placed g.result.code (g.result.gates ∷ g.result.cost ∷ g.result.levels ∷ []) a.answer.now
    (preview_answer a.answer.now (c.refusal-code.ensures.gives c.if-code-ne0.false) a.signal g.ensures)
    (c.put_three.ensures.value, c.put_three.ensures.answer_after) in
    record { value = p.0; answer_after = p.1 }
