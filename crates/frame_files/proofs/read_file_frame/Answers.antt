-- The refusal, then the reading of the file's network.
use Rattle.std.proofs.Common.{[], ◌∷◌}
use Rattle.basics.specs.RefusalLaws.{refused_one}
use Rattle.pmn_opening.specs.AnswerLaws.{placed}
use Rattle.pmn_opening.specs.OpeningLaws.{file_sound, open_refused}
use Rattle.frame_files.specs.Files.{frame_places}
use Rattle.frame_files.proofs.FileLaws.{frame_answer_lem}
use Rattle.frame_files.proofs.read_file_frame.Goals as goal

pub returns-then-code-ne0 : goal.returns-then-code-ne0
unfolding frame_places
returns-then-code-ne0 c =
    let left = refused_one c.args.answer.now (open_refused c.refusal-code.ensures _ c.if-code-ne0.true) in
    record { value = left.0; answer_after = left.1 }

pub read_sound-reading-requires : goal.read_sound-reading-requires
read_sound-reading-requires c = file_sound (c.refusal-code.ensures.gives c.if-code-ne0.false)

pub put_two-requires : goal.put_two-requires
put_two-requires c = (c.refusal-code.ensures.gives c.if-code-ne0.false).room

pub returns : goal.returns
returns c =
    let g = c.read_sound-reading in
    let a = c.args in
    let left = placed g.result.code (g.result.bits ∷ g.result.ones ∷ []) a.answer.now
    (frame_answer_lem a.answer.now (c.refusal-code.ensures.gives c.if-code-ne0.false) a.frame g.ensures)
    (c.put_two.ensures.value, rw c.from.ensures at c.put_two.ensures.answer_after) in
    record { value = left.0; answer_after = left.1 }
