-- The record's test, then the reading of a sound record.
use Rattle.std.proofs.Common.{sym, ◌∙◌}
use Rattle.basics.specs.RefusalLaws.{refused_one}
use Rattle.frame_batch.proofs.AnswerLaws.{answer_broken}
use Rattle.frame_batch.proofs.read_frames.Goals as goal

pub returns-then-not-is_sound : goal.returns-then-not-is_sound
returns-then-not-is_sound c =
    let a = c.args in
    let left = refused_one _ (answer_broken a.network a.frames.now a.answers.now (sym c.is_sound.ensures ∙ c.if-not-is_sound.true)) in
    record { value = left.0; answers_after = left.1 }
