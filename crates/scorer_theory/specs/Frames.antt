-- The frames of a game, from the pins felled by each ball: a grammar that a bowler can read. Document 02, No. 11: "a strike adds the next
-- two balls, a spare the next one, and the tenth frame has up to three balls". Nothing is proved here.
use Rattle.std.specs.Prelude.{◌≡◌, List, [], ◌∷◌, ◌⊎◌, ℕ, suc, ◌+◌, ◌≤◌, ◌<◌, length}
use Rattle.basics.specs.Refusals.{Answer, accepted, refused}
use Rattle.network.specs.Threshold.{Net}
use Rattle.scorer_theory.specs.Rules.{Pins, Game, first_frame, next_game}
use Rattle.scorer_theory.specs.Scores.{running_scores}
use Rattle.scorer_theory.specs.NetworkGames.{pins_on}

-- two balls on one rack, or a strike and a ball on a fresh one
abbrev pub OnRacks : ℕ → ℕ → Type 0
OnRacks a b = (a + b ≤ 10) ⊎ ((a ≡ 10) × (b ≤ 10))

-- the tenth frame under way, its first ball thrown: a strike, with a ball after it or none; or a spare before its third ball
pub data TenthGoing : List ℕ → Type 0 where
  after_strike : TenthGoing (10 ∷ [])
  after_strike_ball : {b : ℕ} → b ≤ 10 → TenthGoing (10 ∷ b ∷ [])
  after_spare : {a b : ℕ} → a < 10 → a + b ≡ 10 → TenthGoing (a ∷ b ∷ [])

-- the tenth frame finished: two balls that leave a pin; a spare and a ball; a strike and two balls
pub data TenthDone : List ℕ → Type 0 where
  open_frame : {a b : ℕ} → a + b < 10 → TenthDone (a ∷ b ∷ [])
  spare_ball : {a b c : ℕ} → a < 10 → a + b ≡ 10 → c ≤ 10 → TenthDone (a ∷ b ∷ c ∷ [])
  strike_balls : {b c : ℕ} → OnRacks b c → TenthDone (10 ∷ b ∷ c ∷ [])

-- the balls from the start of frame k on, up to frame e, so that the frames before e are finished; 11 is the game's end
pub data Frames : ℕ → List ℕ → ℕ → Type 0 where
  no_ball : {k : ℕ} → Frames k [] k
  one_ball_lem : {k a : ℕ} → a < 10 → Frames k (a ∷ []) k
  strike : {k e : ℕ} {balls : List ℕ} → k < 10 → Frames (suc k) balls e → Frames k (10 ∷ balls) e
  two_balls_lem : {k e a b : ℕ} {balls : List ℕ} → k < 10 → a < 10 → a + b ≤ 10 → Frames (suc k) balls e → Frames k (a ∷ b ∷ balls) e
  tenth_going : {k : ℕ} {balls : List ℕ} → k ≡ 10 → TenthGoing balls → Frames k balls 10
  tenth_done : {k : ℕ} {balls : List ℕ} → k ≡ 10 → TenthDone balls → Frames k balls 11

-- ---- the game after some balls

unfoldable pub after_ball : Game → Answer Pins → Game
after_ball g (accepted after) = next_game g after
after_ball g (refused c) = g

-- the game after the balls of a list, as long as none is refused
unfoldable pub game_after : (ℕ → Answer Pins) → Game → List ℕ → Game
game_after pins g [] = g
game_after pins g (x ∷ xs) = game_after pins (after_ball g (pins x)) xs

-- a game that is not refused: it is made of frames; only finished frames have a score; and all ten have at the game's end
pub record MadeOfFrames (net : Net) (shots felled : List ℕ) : Type 0 where
  pub frames : Frames 1 felled (game_after (pins_on net) first_frame shots).frame
  pub finished_only : 1 + length (running_scores felled) ≤ (game_after (pins_on net) first_frame shots).frame
  pub all_at_the_end : (game_after (pins_on net) first_frame shots).frame ≡ 11 → length (running_scores felled) ≡ 10
