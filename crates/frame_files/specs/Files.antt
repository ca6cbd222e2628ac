-- What reading frames answers on the network of a whole file: one frame, with the order as read, 18, 10, and up to 64 in one pass
-- (document 02, No. 10), with the order as read, 26, 10. Nothing is proved here.
use Rattle.std.specs.Prelude.{List, [], ◌∷◌, ℕ, length}
use Rattle.basics.specs.Lists.{all}
use Rattle.basics.specs.Refusals.{Answer, accepted, ◌else◌, checks, bind}
use Rattle.network.specs.Threshold.{frame, fits_frame, output_bits, word_of, ones_of}
use Rattle.network.specs.Record.{layout}
use Rattle.pmn_opening.specs.Files.{read_net, open_net}
use Rattle.frame_batch.specs.Frames.{room_for, frame_words}

-- output bits and ones
unfoldable pub frame_places : List ℕ → ℕ → List ℕ → Answer (List ℕ)
frame_places file x answer = bind (open_net file (length answer) 2) (λ N.
    checks ((fits_frame N.inputs x else 10) ∷ [])
    (accepted (word_of (output_bits N (frame x)) ∷ ones_of (output_bits N (frame x)) ∷ [])))

-- the output words of up to 64 frames
unfoldable pub file_frames : List ℕ → List ℕ → List ℕ → Answer (List ℕ)
file_frames file frames lent = bind (read_net file) (λ N. checks
    ((room_for frames lent else 26) ∷ (all (fits_frame N.inputs) frames else 10) ∷ [])
    (accepted (frame_words (layout N) frames)))
