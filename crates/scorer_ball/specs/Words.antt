-- Internal: pins as the code keeps them: a word with pin j in bit j. Nothing is proved here.
use Rattle.std.specs.Prelude.{◌≡◌, false, [], ◌∷◌, ℕ, zero, suc, ◌/◌, ◌%◌, ◌≤◌, ◌<◌, ◌+◌, ◌*◌, eqb}
use Rattle.basics.specs.Refusals.{accepted}
use Rattle.scorer_theory.specs.Rules.{Pins, Game, has_raised_pin, felled_by, with_ball, ball}
use Rattle.scorer_ball.specs.declared.Lane.{Lane}

-- the lowest n bits of a word, the lowest first
unfoldable pub bits_of : ℕ → ℕ → Pins
bits_of zero w = []
bits_of (suc n) w = eqb (w % 2) 1 ∷ bits_of n (w / 2)

-- the pins of a word
abbrev pub pins_in : ℕ → Pins
pins_in w = bits_of 10 w

-- the game that a lane stands for
unfoldable pub game_of : Lane → Game
game_of l = record { frame = l.frame; balls = l.balls; down = l.down; rack = pins_in l.rack }

-- the lane before a game's first ball
abbrev pub first_lane : Lane
first_lane = record { frame = 1; balls = 0; down = 0; rack = 1023 }

-- a lane's numbers are those of a game: one ball of the frame at most, two of the tenth; the pins that they felled, each a byte; ten pins
pub record OnLane (l : Lane) : Type 0 where
  pub few_balls : l.balls ≤ 1 + l.frame / 10
  pub few_down : l.down ≤ 255 * l.balls
  pub ten_pins : l.rack < 1024

-- a ball that left pins of the rack
pub record SameRack (before after : ℕ) : Type 0 where
  pub ten_before : before < 1024
  pub ten_after : after < 1024
  pub same_rack : has_raised_pin (pins_in before) (pins_in after) ≡ false

-- the lane after a ball: the game after it, and ten pins
pub record BallThrown (l : Lane) (felled after : ℕ) (r : Lane) : Type 0 where
  pub game : game_of r ≡ with_ball (game_of l) felled (pins_in after)
  pub ten_pins : r.rack < 1024

-- a ball that is not refused: what it felled, and the lane after it
pub record BallPlayed (l : Lane) (felled after : ℕ) (r : Lane) : Type 0 where
  pub allowed : ball (game_of l) (pins_in after) ≡ accepted (pins_in after)
  pub pins : felled ≡ felled_by (pins_in l.rack) (pins_in after)
  pub thrown : BallThrown l felled after r
