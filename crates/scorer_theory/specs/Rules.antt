-- The ten-pin rules on pins, ball by ball: racks, frames, the end of the game, and the pins felled by each ball. Document 02, No. 11.
-- Nothing is proved here.
use Rattle.std.specs.Prelude.{Bool, true, false, not, cond, ◌&&◌, ◌||◌, List, [], ◌∷◌, ℕ, ◌+◌, leb, ltb, eqb, take, replicate}
use Rattle.basics.specs.Refusals.{Answer, accepted, ◌else◌, checks, bind}
use Rattle.network.specs.Threshold.{digit, ones_of}

-- ---- pins

-- a bit for each pin, "1 for standing"
abbrev pub Pins : Type 0
Pins = List Bool

-- "The first ten outputs are the pins .. further outputs are passed over"
unfoldable pub pins_of : List Bool → Pins
pins_of outputs = take 10 outputs

-- "a fresh rack": ten pins stand
unfoldable pub fresh_rack : Pins
fresh_rack = replicate 10 true

-- "a pin that stands after a ball without having stood before it in the same rack"
unfoldable pub has_raised_pin : Pins → Pins → Bool
has_raised_pin [] after = false
has_raised_pin (b ∷ before) [] = false
has_raised_pin (b ∷ before) (a ∷ after) = (a && not b) || has_raised_pin before after

-- "the number of pins felled": those that stood before the ball and do not after it
unfoldable pub felled_by : Pins → Pins → ℕ
felled_by [] after = 0
felled_by (b ∷ before) [] = 0
felled_by (b ∷ before) (a ∷ after) = digit (b && not a) + felled_by before after

-- ---- the game under way

-- before a ball: the frame (1 to 10, and 11 after the game's end), how many balls it has had, how many pins they felled, and the pins
-- that stand
pub record Game : Type 0 where
  pub frame : ℕ
  pub balls : ℕ
  pub down : ℕ
  pub rack : Pins

-- the first frame, with no ball thrown
unfoldable pub first_frame : Game
first_frame = record { frame = 1; balls = 0; down = 0; rack = fresh_rack }

-- a frame is finished: one of the first nine with its second ball or with a strike; "the tenth frame has up to three balls", two if they
-- leave a pin, three after a strike or a spare
unfoldable pub finished : ℕ → ℕ → ℕ → Bool
finished frame balls down = cond (ltb frame 10) (leb 2 balls || eqb down 10) (leb 3 balls || (leb 2 balls && ltb down 10))

-- the pins before the next ball of the same frame: those that stand, or "a fresh rack after a strike or spare", when none stands
unfoldable pub rack_for : Pins → Pins
rack_for after = cond (eqb (ones_of after) 0) fresh_rack after

-- a ball more that felled so many pins and left these
unfoldable pub with_ball : Game → ℕ → Pins → Game
with_ball g felled after =
    cond (finished g.frame (g.balls + 1) (g.down + felled))
    (record { frame = g.frame + 1; balls = 0; down = 0; rack = fresh_rack })
    (record { frame = g.frame; balls = g.balls + 1; down = g.down + felled; rack = rack_for after })

-- the game after a ball that left these pins
unfoldable pub next_game : Game → Pins → Game
next_game g after = with_ball g (felled_by g.rack after) after

-- ---- refusals, ball by ball

-- "then 28 for a ball after the game's end, then 29 for a pin that stands after a ball without having stood before it"
unfoldable pub ball : Game → Pins → Answer Pins
ball g after = checks ((leb g.frame 10 else 28) ∷ (not (has_raised_pin g.rack after) else 29) ∷ []) (accepted after)

-- the pins felled by each ball, given what is read after each; "ball by ball comes 10, then 28 .., then 29"
unfoldable pub felled_from : (ℕ → Answer Pins) → Game → List ℕ → Answer (List ℕ)
felled_from pins g [] = accepted []
felled_from pins g (x ∷ xs) =
    bind (bind (pins x) (ball g))
    (λ after. bind (felled_from pins (next_game g after) xs) (λ rest. accepted (felled_by g.rack after ∷ rest)))
