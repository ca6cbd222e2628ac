-- The read's refusal, then the reading of the file's record, which is sound.
use Rattle.std.proofs.Common.{◌∙◌}
use Rattle.basics.specs.RefusalLaws.{left_one, refused_one}
use Rattle.pmn_opening.specs.OpeningLaws.{file_sound, read_refused}
use Rattle.frame_files.specs.Files.{file_frames}
use Rattle.frame_files.proofs.FileLaws.{file_answer}
use Rattle.frame_files.proofs.read_file_frames.Goals as goal

pub returns-then-code-ne0 : goal.returns-then-code-ne0
unfolding file_frames
returns-then-code-ne0 c =
    let left = refused_one _ (read_refused c.refusal-code.ensures _ c.if-code-ne0.true) in
    record { value = left.0; answers_after = left.1 }

pub read_sound-requires : goal.read_sound-requires
read_sound-requires c = file_sound (c.refusal-code.ensures.gives c.if-code-ne0.false)

pub returns : goal.returns
returns c =
    let a = c.args in
    let same = left_one (file_answer (c.refusal-code.ensures.gives c.if-code-ne0.false) a.frames.now a.answers.now) a.answers.now in
    record { value = c.read_sound.ensures.value ∙ same.0; answers_after = c.read_sound.ensures.answers_after ∙ same.1 }
