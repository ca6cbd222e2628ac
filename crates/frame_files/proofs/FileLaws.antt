-- What reading frames of an accepted file answers is what it answers for the file's record. Assumes nothing.
use mathlib.Core.Path.{◌≡◌, refl, sym, ap, ◌∙◌}
use mathlib.Core.Bool.{Bool, true, false}
use mathlib.Core.List.{List, [], ◌∷◌}
use Prim.Native.Nat.{ℕ}
use lib.ListN.{length}
use Rattle.basics.specs.Refusals.{Answer, accepted, ◌else◌, checks}
use Rattle.basics.specs.RefusalLaws.{checks_next}
use Rattle.network.specs.Threshold.{Net, frame, fits_frame, output_bits, word_of, ones_of}
use Rattle.network.specs.Record.{net_of, layout, sound_record}
use Rattle.network.specs.declared.Network.{Network}
use Rattle.frame_reading.specs.Reading.{frame_answer, as_reading, reading}
use Rattle.frame_reading.specs.declared.Reading.{Reading}
use Rattle.pmn_opening.specs.Places.{answer_of}
use Rattle.pmn_opening.specs.Opening.{FileOpen}
use Rattle.pmn_opening.specs.OpeningLaws.{file_sound, open_record, read_on, open_on}
use Rattle.frame_batch.specs.Frames.{frames_answer}
use Rattle.frame_files.specs.Files.{frame_places, file_frames}

-- ---- up to 64 frames
pub file_answer : {file : List ℕ} {r : Network} → FileOpen file 0 0 r → (frames lent : List ℕ) → file_frames file frames lent ≡ frames_answer r frames lent
unfolding file_frames frames_answer layout
file_answer {file} {r} a frames lent =
    read_on a _
    ∙ sym (checks_next (sound_record (layout a.net)) 20 _ _ (sym (ap sound_record a.laid) ∙ file_sound a))
    ∙ ap (λ (x : Network). frames_answer x frames lent) (sym a.laid)

-- ---- one frame

-- the places of a reading
abbrev reading_places : Reading → Answer (List ℕ)
reading_places g = answer_of g.code (g.bits ∷ g.ones ∷ [])

reading_test : (b : Bool) (bs : List Bool)
    → checks ((b else 10) ∷ []) (accepted (word_of bs ∷ ones_of bs ∷ [])) ≡ reading_places (as_reading (checks ((b else 10) ∷ []) (accepted bs)))
unfolding as_reading checks answer_of
reading_test true bs = refl
reading_test false bs = refl

-- of a sound record
sound_reading : (r : Network) (x : ℕ) → sound_record r ≡ true
    → reading r x ≡ as_reading (checks ((fits_frame (net_of r).inputs x else 10) ∷ []) (accepted (output_bits (net_of r) (frame x))))
unfolding reading frame_answer net_of
sound_reading r x s = ap as_reading (checks_next (sound_record r) 20 _ _ s)

pub frame_answer_lem : {file : List ℕ} {r : Network} (lent : List ℕ) → FileOpen file (length lent) 2 r → (x : ℕ) {g : Reading} → g ≡ reading r x
    → frame_places file x lent ≡ answer_of g.code (g.bits ∷ g.ones ∷ [])
unfolding frame_places
frame_answer_lem {r = r} lent a x e =
    let bits : Net → List Bool = λ N. output_bits N (frame x) in
    open_on a _
    ∙ ap (λ (N : Net). checks ((fits_frame N.inputs x else 10) ∷ []) (accepted (word_of (bits N) ∷ ones_of (bits N) ∷ []))) (open_record a)
    ∙ reading_test (fits_frame (net_of r).inputs x) (bits (net_of r))
    ∙ sym (ap reading_places (e ∙ sound_reading r x (file_sound a)))
