-- Games on literal networks of ten and more outputs and of nine: document 02, No. 11. A frame's bit i is 1 where pin i stands. Nothing is proved
-- here.
use Rattle.std.specs.Prelude.{◌≡◌, List, [], ◌∷◌, ◌++◌, map, ℕ, pos, replicate}
use Rattle.basics.specs.Refusals.{Answer, accepted, refused, bind}
use Rattle.network.specs.Threshold.{Gate, Net}
use Rattle.scorer_theory.specs.Scores.{running_scores}
use Rattle.scorer_theory.specs.Games.{GameResult}
use Rattle.scorer_theory.specs.NetworkGames.{game}
use Rattle.worked_examples.specs.Literal.{feed, gate_with, version1, net_with}

-- ---- two networks

-- the gate [x 1; 1] of an input
abbrev copies : ℕ → Gate
copies i = gate_with (feed i (pos 1) ∷ []) (pos 1)

-- ten inputs; the gates copy them from the last to the first, and after them comes a gate that is always 1; the outputs name the gates from the
-- last copy to the first, so that output j is input j, and then the gate that is always 1, twice
abbrev copying : Net
copying = net_with version1 10
    (copies 9 ∷ copies 8 ∷ copies 7 ∷ copies 6 ∷ copies 5 ∷ copies 4 ∷ copies 3 ∷ copies 2 ∷ copies 1 ∷ copies 0 ∷ gate_with [] (pos 0) ∷ [])
    (19 ∷ 18 ∷ 17 ∷ 16 ∷ 15 ∷ 14 ∷ 13 ∷ 12 ∷ 11 ∷ 10 ∷ 20 ∷ 20 ∷ [])

-- with its first nine outputs
abbrev nine : Net
nine = net_with version1 10 copying.gates (19 ∷ 18 ∷ 17 ∷ 16 ∷ 15 ∷ 14 ∷ 13 ∷ 12 ∷ 11 ∷ [])

pub record GameRow : Type 0 where
  pub net : Net
  pub frames : List ℕ
  pub comes : Answer GameResult

abbrev plays : List ℕ → List ℕ → List ℕ → GameRow
plays frames felled scores = record { net = copying; frames = frames; comes = accepted (record { felled = felled; scores = scores }) }

-- games on a network, all refused with a number
abbrev refuses : ℕ → Net → List (List ℕ) → List GameRow
refuses k N games = map (λ frames. record { net = N; frames = frames; comes = refused k }) games

-- twelve strikes
abbrev strikes : List ℕ
strikes = replicate 12 0

-- a finished game: strikes, spares, misses and open frames, of which the tenth is one
abbrev finished : List ℕ
finished = 3 ∷ 1 ∷ 512 ∷ 0 ∷ 0 ∷ 1023 ∷ 1023 ∷ 1022 ∷ 512 ∷ 0 ∷ 0 ∷ 7 ∷ 0 ∷ 1023 ∷ 1 ∷ 992 ∷ 960 ∷ []

-- ---- games that are played: none yet; two pins stand, then one; a spare whose bonus ball is not known yet; twelve strikes; the finished one; a
-- third ball after a spare in the tenth frame
unfoldable pub played : List GameRow
played =
    plays [] [] []
    ∷ plays (3 ∷ 1 ∷ []) (8 ∷ 1 ∷ []) (9 ∷ [])
    ∷ plays (512 ∷ 0 ∷ []) (9 ∷ 1 ∷ []) []
    ∷ plays strikes (replicate 12 10) (30 ∷ 60 ∷ 90 ∷ 120 ∷ 150 ∷ 180 ∷ 210 ∷ 240 ∷ 270 ∷ 300 ∷ [])
    ∷ plays finished (8 ∷ 1 ∷ 9 ∷ 1 ∷ 10 ∷ 0 ∷ 0 ∷ 1 ∷ 8 ∷ 10 ∷ 10 ∷ 7 ∷ 3 ∷ 0 ∷ 9 ∷ 5 ∷ 1 ∷ [])
    (9 ∷ 29 ∷ 39 ∷ 39 ∷ 48 ∷ 75 ∷ 95 ∷ 105 ∷ 114 ∷ 120 ∷ [])
    ∷ plays (replicate 9 0 ++ (31 ∷ 0 ∷ 1 ∷ [])) (replicate 9 10 ++ (5 ∷ 5 ∷ 9 ∷ []))
    (30 ∷ 60 ∷ 90 ∷ 120 ∷ 150 ∷ 180 ∷ 210 ∷ 235 ∷ 255 ∷ 274 ∷ [])
    ∷ []

-- ---- games that are refused: 27 for nine outputs, whatever the game; 10 for a bit at place 10, also after the game's end; 28 for a ball after the
-- end, after an open tenth frame too; 29 for a pin that stands again; of two balls the number of the first
unfoldable pub refused_games : List GameRow
refused_games =
    refuses 27 nine ([] ∷ (1024 ∷ []) ∷ [])
    ++ refuses 10 copying ((1024 ∷ []) ∷ (strikes ++ (1024 ∷ [])) ∷ (1 ∷ 1026 ∷ []) ∷ [])
    ++ refuses 28 copying ((strikes ++ (0 ∷ [])) ∷ (strikes ++ (1023 ∷ [])) ∷ (finished ++ (1023 ∷ [])) ∷ [])
    ++ refuses 29 copying ((1 ∷ 2 ∷ []) ∷ (1 ∷ 3 ∷ []) ∷ (1 ∷ 2 ∷ 1024 ∷ []) ∷ [])

-- ---- the games of a table come to what it says: the pins felled by each ball, and the running scores
unfoldable pub game_on : Net → List ℕ → Answer GameResult
game_on N frames = bind (game N frames) (λ felled. accepted (record { felled = felled; scores = running_scores felled }))

abbrev pub PlayedAsSaid : List GameRow → Type 0
PlayedAsSaid rows = map (λ row. game_on row.net row.frames) rows ≡ map (λ row. row.comes) rows

pub record GamesPlayed : Type 0 where
  pub are_played : PlayedAsSaid played
  pub are_refused : PlayedAsSaid refused_games
