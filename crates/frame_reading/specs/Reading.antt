-- What reading a frame answers: document 01, "Reading a frame", with the order 20, 10. Nothing is proved here.
use Rattle.std.specs.Prelude.{Bool, List, [], ◌∷◌, ℕ}
use Rattle.basics.specs.Refusals.{Answer, accepted, refused, ◌else◌, checks}
use Rattle.network.specs.Threshold.{frame, fits_frame, output_bits, word_of, ones_of}
use Rattle.network.specs.Record.{net_of, sound_record}
use Rattle.network.specs.declared.Network.{Network}
use Rattle.frame_reading.specs.declared.Reading.{Reading}

-- the output bits, or the refusal
unfoldable pub frame_answer : Network → ℕ → Answer (List Bool)
frame_answer r x = checks ((sound_record r else 20) ∷ (fits_frame r.inputs x else 10) ∷ []) (accepted (output_bits (net_of r) (frame x)))

-- the answer as the call gives it; a refusal has "0 for every other number"
unfoldable pub as_reading : Answer (List Bool) → Reading
as_reading (accepted bs) = record { code = 0; bits = word_of bs; ones = ones_of bs }
as_reading (refused c) = record { code = c; bits = 0; ones = 0 }

unfoldable pub reading : Network → ℕ → Reading
reading r x = as_reading (frame_answer r x)
