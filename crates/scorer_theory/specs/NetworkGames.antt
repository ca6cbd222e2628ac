-- The game on a network: the pins that it shows after each ball, and the pins felled. Document 02, No. 11: 27, then ball by ball.
-- Nothing is proved here.
use Rattle.std.specs.Prelude.{List, [], ◌∷◌, ℕ, leb, length}
use Rattle.basics.specs.Refusals.{Answer, accepted, ◌else◌, checks}
use Rattle.network.specs.Threshold.{Net, frame, fits_frame, output_bits}
use Rattle.scorer_theory.specs.Rules.{Pins, pins_of, first_frame, felled_from}

-- the pins that a frame shows, or 10 for a long one
unfoldable pub pins_on : Net → ℕ → Answer Pins
pins_on N x = checks ((fits_frame N.inputs x else 10) ∷ []) (accepted (pins_of (output_bits N (frame x))))

-- the pins felled by each ball of a game: "A network with fewer than ten outputs gives 27", also for an empty game; then ball by ball
unfoldable pub game : Net → List ℕ → Answer (List ℕ)
game N frames = checks ((leb 10 (length N.outputs) else 27) ∷ []) (felled_from (pins_on N) first_frame frames)
