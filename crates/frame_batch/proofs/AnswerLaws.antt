-- The answer for a list of frames, as the code's tests find it, and what is left in the lent places. Assumes nothing.
use mathlib.Core.Path.{◌≡◌, sym, ap, ◌∙◌}
use mathlib.Core.Bool.{true, false}
use mathlib.Core.List.{List, ◌++◌}
use Prim.Native.Nat.{ℕ, ◌≤◌, ◌<◌}
use native.Mathlib.Omega.{arith}
use lib.ListN.{length, take, drop, length-map}
use lib.Seq.{ext_get_or, get_or-take, length-take-le}
use Rattle.basics.specs.Lists.{all}
use Rattle.basics.specs.TableLaws.{get_d_map}
use Rattle.basics.specs.Refusals.{Answer, accepted, refused, code_of, stored, checks}
use Rattle.basics.specs.RefusalLaws.{left_one}
use Rattle.network.specs.Threshold.{fits_frame}
use Rattle.network.specs.Record.{sound_record}
use Rattle.network.specs.declared.Network.{Network}
use Rattle.frame_reading.specs.Reading.{reading}
use Rattle.frame_pass.specs.Batch.{Readable, FirstWords}
use Rattle.frame_batch.specs.Frames.{room_for, frame_words, frames_answer}

-- ---- the answers in order
module _ (r : Network) (frames lent : List ℕ) where
  pub answer_broken : sound_record r ≡ false → frames_answer r frames lent ≡ refused 20
  unfolding frames_answer checks
  answer_broken s = rw s

  pub answer_crowded : sound_record r ≡ true → room_for frames lent ≡ false → frames_answer r frames lent ≡ refused 26
  unfolding frames_answer checks
  answer_crowded s h = rw (s, h)

  pub answer_long : sound_record r ≡ true → room_for frames lent ≡ true → all (fits_frame r.inputs) frames ≡ false
      → frames_answer r frames lent ≡ refused 10
  unfolding frames_answer checks
  answer_long s h f = rw (s, h, f)

  pub answer_words : Readable r frames → room_for frames lent ≡ true → frames_answer r frames lent ≡ accepted (frame_words r frames)
  unfolding frames_answer checks
  answer_words a h = rw (a.sound, h, a.fit)

-- ---- what a call leaves

-- the words in front, and every place after them as it was
module _ (r : Network) {frames words : List ℕ} (few : length frames ≤ 64) (w : FirstWords r frames words) where
  long : length (take (length frames) words) ≡ length frames
  long = length-take-le (length frames) words (omega (arith, w.long))

  first_words : take (length frames) words ≡ frame_words r frames
  unfolding frame_words
  first_words = ext_get_or 0 (take (length frames) words) (frame_words r frames) (long ∙ sym (length-map frames (λ x. (reading r x).bits)))
      λ f k.
      let l : f < length frames = omega (arith, long) in
      get_or-take (length frames) words f 0 l ∙ w.word f l ∙ sym (get_d_map (λ x. (reading r x).bits) frames f 0 0 l)

  pub left_words : (lent : List ℕ) {new : List ℕ} {a : Answer (List ℕ)} → a ≡ accepted (frame_words r frames)
      → new ≡ take (length frames) words ++ drop (length frames) lent → (0 ≡ code_of a) × (new ≡ stored a lent)
  unfolding code_of stored frame_words
  left_words lent {new} {a} e h =
      let same : length frames ≡ length (frame_words r frames) = sym (length-map frames (λ x. (reading r x).bits)) in
      let left = left_one e lent in (
        left.0,
        h ∙ ap (λ (ws : List ℕ). ws ++ drop (length frames) lent) first_words ∙ ap (λ (n : ℕ). frame_words r frames ++ drop n lent) same ∙ left.1,
      )
