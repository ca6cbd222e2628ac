-- The two lengths, the frames, and then the words of the lanes.
use Rattle.std.proofs.Common.{sym, ap, ◌∙◌, ◌++◌, drop, length}
use Rattle.network.specs.SoundLaws.{sized_of}
use Rattle.basics.specs.RefusalLaws.{refused_one}
use Rattle.frame_pass.specs.Batch.{Readable}
use Rattle.frame_batch.proofs.RoomLaws.{no_room, room_yes}
use Rattle.frame_batch.proofs.AnswerLaws.{answer_crowded, answer_long, answer_words, left_words}
use Rattle.frame_batch.proofs.unchecked.read_sound.Goals as goal

pub returns-then-count-gt64 : goal.returns-then-count-gt64
returns-then-count-gt64 c =
    let a = c.args in
    let left = refused_one _ (answer_crowded a.network.now a.frames.now a.answers.now c.requires (no_room _ _ c.then-count-gt64.either)) in
    record { value = left.0; answers_after = left.1 }

pub frames_fit-requires : goal.frames_fit-requires
frames_fit-requires c = (sized_of _ c.requires).few_inputs

pub returns-then-not-frames_fit : goal.returns-then-not-frames_fit
returns-then-not-frames_fit c =
    let a = c.args in
    let room = room_yes a.frames.now a.answers.now c.if-count-gt64.false c.if-answers-count.false in
    let left = refused_one _ (answer_long a.network.now a.frames.now a.answers.now c.requires room (sym c.frames_fit.ensures ∙ c.if-not-frames_fit.true)) in
    record { value = left.0; answers_after = left.1 }

-- past both tests the frames may be read
pub frame_words-words-requires : goal.frame_words-words-requires
frame_words-words-requires c =
    record { sound = c.requires; few = c.if-count-gt64.false; fit = sym c.frames_fit.ensures ∙ c.if-not-frames_fit.false }

pub returns : goal.returns
returns c =
    let a = c.args in
    let can : Readable a.network.now a.frames.now = record { sound = c.requires; few = c.if-count-gt64.false; fit = sym c.frames_fit.ensures ∙ c.if-not-frames_fit.false } in
    let room = room_yes a.frames.now a.answers.now c.if-count-gt64.false c.if-answers-count.false in
    let left = left_words a.network.now can.few c.frame_words-words.ensures a.answers.now (answer_words a.network.now a.frames.now a.answers.now can room)
    (ap (λ ws. ws ++ drop (length a.frames.now) a.answers.now) c.copy_from_slice.ensures.after) in
    record { value = left.0; answers_after = left.1 }
