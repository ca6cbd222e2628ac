-- Known games as a table: the pins that stand after each ball, the pins felled by each, and the running scores; and games that are
-- refused. Nothing is proved here.
use Rattle.std.specs.Prelude.{true, false, List, [], ◌∷◌, ◌++◌, ℕ, zero, suc, ◌-◌, replicate}
use Rattle.basics.specs.Refusals.{Answer, accepted, refused, bind}
use Rattle.scorer_theory.specs.Rules.{Pins, first_frame, felled_from}
use Rattle.scorer_theory.specs.Scores.{running_scores}

-- the pins with the first n standing
unfoldable pub standing : ℕ → Answer Pins
standing n = accepted (replicate n true ++ replicate (10 - n) false)

-- what a game comes to: the pins felled by each ball, and the running scores
pub record GameResult : Type 0 where
  pub felled : List ℕ
  pub scores : List ℕ

unfoldable pub came_to : List ℕ → Answer GameResult
came_to left = bind (felled_from standing first_frame left) (λ felled. accepted (record { felled = felled; scores = running_scores felled }))

-- a game by how many pins stand after each ball, and what it must come to
pub record KnownGame : Type 0 where
  pub left : List ℕ
  pub comes : Answer GameResult

abbrev plays : List ℕ → List ℕ → List ℕ → KnownGame
plays left felled scores = record { left = left; comes = accepted (record { felled = felled; scores = scores }) }

abbrev refuses : List ℕ → ℕ → KnownGame
refuses left code = record { left = left; comes = refused code }

-- two balls, n times over
abbrev repeated_pair : ℕ → ℕ → ℕ → List ℕ
repeated_pair zero a b = []
repeated_pair (suc n) a b = a ∷ b ∷ repeated_pair n a b

unfoldable pub games : List KnownGame
games =
    -- no ball yet
    plays [] [] []
    -- a perfect game
    ∷ plays (replicate 12 0) (replicate 12 10) (30 ∷ 60 ∷ 90 ∷ 120 ∷ 150 ∷ 180 ∷ 210 ∷ 240 ∷ 270 ∷ 300 ∷ [])
    -- ten spares of 5 and a last 5
    ∷ plays (repeated_pair 10 5 0 ++ 5 ∷ []) (replicate 21 5) (15 ∷ 30 ∷ 45 ∷ 60 ∷ 75 ∷ 90 ∷ 105 ∷ 120 ∷ 135 ∷ 150 ∷ [])
    -- nine and a miss in every frame
    ∷ plays (repeated_pair 10 1 1) (repeated_pair 10 9 0) (9 ∷ 18 ∷ 27 ∷ 36 ∷ 45 ∷ 54 ∷ 63 ∷ 72 ∷ 81 ∷ 90 ∷ [])
    -- nothing but gutter balls
    ∷ plays (replicate 20 10) (replicate 20 0) (replicate 10 0)
    -- a Dutch 200: strikes and spares in turn, strike first
    ∷ plays (0 ∷ 4 ∷ 0 ∷ 0 ∷ 4 ∷ 0 ∷ 0 ∷ 4 ∷ 0 ∷ 0 ∷ 4 ∷ 0 ∷ 0 ∷ 4 ∷ 0 ∷ 0 ∷ [])
    (10 ∷ 6 ∷ 4 ∷ 10 ∷ 6 ∷ 4 ∷ 10 ∷ 6 ∷ 4 ∷ 10 ∷ 6 ∷ 4 ∷ 10 ∷ 6 ∷ 4 ∷ 10 ∷ [])
    (20 ∷ 40 ∷ 60 ∷ 80 ∷ 100 ∷ 120 ∷ 140 ∷ 160 ∷ 180 ∷ 200 ∷ [])
    -- nine open frames of 4, then a strike, 9 and a spare of the same rack in the tenth
    ∷ plays (repeated_pair 9 7 6 ++ 0 ∷ 1 ∷ 0 ∷ []) (repeated_pair 9 3 1 ++ 10 ∷ 9 ∷ 1 ∷ []) (4 ∷ 8 ∷ 12 ∷ 16 ∷ 20 ∷ 24 ∷ 28 ∷ 32 ∷ 36 ∷ 56 ∷ [])
    -- the same, and the tenth one ball short: it is not finished
    ∷ plays (repeated_pair 9 7 6 ++ 0 ∷ 1 ∷ []) (repeated_pair 9 3 1 ++ 10 ∷ 9 ∷ []) (4 ∷ 8 ∷ 12 ∷ 16 ∷ 20 ∷ 24 ∷ 28 ∷ 32 ∷ 36 ∷ [])
    -- an unfinished game: an open frame, a strike, a spare, and one ball of the fourth frame
    ∷ plays (3 ∷ 1 ∷ 0 ∷ 2 ∷ 0 ∷ 6 ∷ []) (7 ∷ 2 ∷ 10 ∷ 8 ∷ 2 ∷ 4 ∷ []) (9 ∷ 29 ∷ 43 ∷ [])
    -- a strike and one ball: no bonus is known whole
    ∷ plays (0 ∷ 7 ∷ []) (10 ∷ 3 ∷ []) []
    -- ten with the second ball of a frame is a spare and no strike
    ∷ plays (10 ∷ 0 ∷ 7 ∷ []) (0 ∷ 10 ∷ 3 ∷ []) (13 ∷ [])
    -- a thirteenth strike, and a third ball after an open tenth frame
    ∷ refuses (replicate 13 0) 28
    ∷ refuses (repeated_pair 10 1 1 ++ 0 ∷ []) 28
    -- a pin that stands again in the same rack, also in the tenth frame after a strike
    ∷ refuses (3 ∷ 4 ∷ []) 29
    ∷ refuses (repeated_pair 9 7 6 ++ 0 ∷ 1 ∷ 2 ∷ []) 29
    ∷ []
