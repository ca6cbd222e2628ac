-- Scores by ten-pin rules, from the pins felled by each ball. A list of balls starts at the first ball of a frame. Document 02, No. 11.
-- Nothing is proved here.
use Rattle.std.specs.Prelude.{Bool, not, cond, ◌&&◌, List, [], ◌∷◌, ℕ, zero, suc, ◌+◌, leb, eqb, length, get_or, take, drop}

-- a strike fells ten with the frame's first ball, a spare with its two
unfoldable pub is_strike : List ℕ → Bool
is_strike balls = eqb (get_or balls 0 0) 10

unfoldable pub is_spare : List ℕ → Bool
is_spare balls = not (is_strike balls) && eqb (get_or balls 0 0 + get_or balls 1 0) 10

-- the balls of a frame before its bonus
unfoldable pub own_balls : List ℕ → ℕ
own_balls balls = cond (is_strike balls) 1 2

-- "a strike adds the next two balls, a spare the next one"; in the tenth frame these are its further balls
unfoldable pub bonus_balls : List ℕ → ℕ
bonus_balls balls = cond (is_strike balls) 2 (cond (is_spare balls) 1 0)

-- the balls that count for a frame
abbrev pub counted_balls : List ℕ → ℕ
counted_balls balls = own_balls balls + bonus_balls balls

-- "every finished frame whose bonus balls are known"
unfoldable pub is_known : List ℕ → Bool
is_known balls = leb (counted_balls balls) (length balls)

unfoldable pub total : List ℕ → ℕ
total [] = 0
total (n ∷ ns) = n + total ns

unfoldable pub frame_score : List ℕ → ℕ
frame_score balls = total (take (counted_balls balls) balls)

-- "the running score" of each frame that is known, so many frames from here on, on top of what the frames before came to
unfoldable pub scores_from : ℕ → ℕ → List ℕ → List ℕ
scores_from zero so_far balls = []
scores_from (suc frames) so_far balls =
    cond (is_known balls)
    ((so_far + frame_score balls) ∷ scores_from frames (so_far + frame_score balls) (drop (own_balls balls) balls))
    []

-- a game has ten frames
unfoldable pub running_scores : List ℕ → List ℕ
running_scores balls = scores_from 10 0 balls
