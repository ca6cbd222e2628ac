-- What reading up to 64 frames in one pass answers: document 02, No. 10, with the order 20, 26, 10. Nothing is proved here.
use Rattle.std.specs.Prelude.{Bool, ◌&&◌, List, [], ◌∷◌, map, ℕ, leb, length}
use Rattle.basics.specs.Lists.{all}
use Rattle.basics.specs.Refusals.{Answer, accepted, ◌else◌, checks}
use Rattle.network.specs.Threshold.{fits_frame}
use Rattle.network.specs.Record.{sound_record}
use Rattle.network.specs.declared.Network.{Network}
use Rattle.frame_reading.specs.Reading.{reading}

-- not "more than 64 frames", and no "lent answer slice shorter than the list of frames" (else 26)
unfoldable pub room_for : List ℕ → List ℕ → Bool
room_for frames lent = leb (length frames) 64 && leb (length frames) (length lent)

-- "the output bits for each come back as single readings would give them"
unfoldable pub frame_words : Network → List ℕ → List ℕ
frame_words r frames = map (λ x. (reading r x).bits) frames

-- the output words, or the refusal; "if a frame is refused, none is read"
unfoldable pub frames_answer : Network → List ℕ → List ℕ → Answer (List ℕ)
frames_answer r frames lent = checks
    ((sound_record r else 20) ∷ (room_for frames lent else 26) ∷ (all (fits_frame r.inputs) frames else 10) ∷ [])
    (accepted (frame_words r frames))
