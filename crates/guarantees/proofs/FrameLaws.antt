-- Frames in one pass are as claimed. Assumes nothing.
use Rattle.std.specs.Prelude.{◌≡◌, Bool, true, false, ◌&&◌, ℕ, ◌≤◌, ◌<◌, leb, length}
use Rattle.std.proofs.Math.Path.{refl, ap}
use Rattle.std.proofs.Common.{sym, ◌∙◌, le-leb}
use mathlib.Core.List.{List, [], ◌∷◌, map}
use Rattle.std.proofs.lemmas.Bool.{lt-leb}
use Rattle.basics.specs.Lists.{all}
use Rattle.basics.specs.Refusals.{Answer, accepted, refused, Test, ◌else◌, checks}
use Rattle.basics.specs.RefusalLaws.{checks_first, checks_next, checks_none}
use Rattle.basics.specs.TestLaws.{both_true, and_false_left, and_false_right}
use Rattle.network.specs.Threshold.{fits_frame}
use Rattle.network.specs.Record.{sound_record}
use Rattle.frame_reading.specs.Reading.{frame_answer, as_reading, reading}
use Rattle.frame_batch.specs.Frames.{room_for, frame_words, frames_answer}
use Rattle.journal.specs.Records.{sound_whole}
use Rattle.journal.proofs.AnswerLaws.{whole_network, whole_few, whole_of}
use Rattle.journal.specs.declared.Record.{Record}
use Rattle.journal_calls.specs.Answers.{reading_on, frames_on}
use Rattle.journal_calls.specs.AnswerLaws.{tested_few, tested_many}
use Rattle.guarantees.specs.Frames.{FramesClaim}
use Rattle.guarantees.proofs.AnswerLaws.{by_test, by_count, whole_differs}

module _ (r : Record) (frames lent : List ℕ) where
  abbrev few : Bool
  few = leb (length frames) 64

  abbrev places : Bool
  places = leb (length frames) (length lent)

  abbrev fit : Bool
  fit = all (fits_frame r.network.inputs) frames

  abbrev words : Answer (List ℕ)
  words = accepted (frame_words r.network frames)

  abbrev last : List Test
  last = (fit else 10) ∷ []

  abbrev rest : List Test
  rest = (few && places else 26) ∷ last

  broken : sound_whole r ≡ false → frames_on r frames lent ≡ refused 20
  unfolding frames_on frames_answer room_for
  broken w = by_count r.journal.count
      (λ h. tested_few r (frames_answer r.network frames lent) h ∙ by_test (sound_record r.network)
      (λ s. absurd (whole_differs r (whole_of r s h) w))
      (λ s. checks_first (sound_record r.network) 20 rest words s))
      (λ h. tested_many r (frames_answer r.network frames lent) h)

  on : sound_whole r ≡ true → frames_on r frames lent ≡ checks rest words
  unfolding frames_on frames_answer room_for
  on w = tested_few r (frames_answer r.network frames lent) (whole_few r w) ∙ checks_next (sound_record r.network) 20 rest words (whole_network r w)

  without_room : sound_whole r ≡ true → (few && places) ≡ false → frames_on r frames lent ≡ refused 26
  without_room w e = on w ∙ checks_first (few && places) 26 last words e

  with_room : sound_whole r ≡ true → length frames ≤ 64 → length frames ≤ length lent → frames_on r frames lent ≡ checks last words
  with_room w h k = on w
      ∙ checks_next (few && places) 26 last words (both_true few places (le-leb (length frames) 64 h) (le-leb (length frames) (length lent) k))

  -- a single reading, of the record and of its network
  single : sound_whole r ≡ true → (x : ℕ) → reading_on r x ≡ reading r.network x
  unfolding reading_on reading
  single w x = ap as_reading (tested_few r (frame_answer r.network x) (whole_few r w))

  as_singles : sound_whole r ≡ true → (xs : List ℕ) → frame_words r.network xs ≡ map (λ x. (reading_on r x).bits) xs
  unfolding frame_words
  as_singles w [] = refl
  as_singles w (x ∷ xs) = λ i. (sym (single w x) i).bits ∷ as_singles w xs i

  pub frames_claim : FramesClaim r frames lent
  frames_claim = record {
    unsound = broken;
    many = λ w h. without_room w (and_false_left few places (lt-leb (length frames) 64 h));
    short = λ w h. without_room w (and_false_right few places (lt-leb (length frames) (length lent) h));
    long = λ w h k e. with_room w h k ∙ checks_first fit 10 [] words e;
    given = λ w h k e. with_room w h k ∙ checks_next fit 10 [] words e ∙ checks_none words ∙ ap accepted (as_singles w frames);
  }
