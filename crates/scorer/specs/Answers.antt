-- What the scorer answers for a record, and for a file, and the frames after each ball. Document 02, No. 11: 20, then 27, then ball by ball.
-- Nothing is proved here.
use Rattle.std.specs.Prelude.{List, [], ◌∷◌, ◌++◌, ℕ, length}
use Rattle.basics.specs.Lists.{places}
use Rattle.basics.specs.Refusals.{Answer, accepted, ◌else◌, checks, bind}
use Rattle.network.specs.Record.{net_of}
use Rattle.pmn_opening.specs.Files.{open_net}
use Rattle.journal.specs.Records.{sound_whole}
use Rattle.journal.specs.declared.Record.{Record}
use Rattle.scorer_theory.specs.Scores.{running_scores}
use Rattle.scorer_theory.specs.NetworkGames.{game}
use Rattle.scorer_tally.specs.Sheets.{as_sheet}
use Rattle.scorer_tally.specs.declared.Sheet.{Sheet}

-- ---- a record

-- 20 for the network or the journal comes first
unfoldable pub scoring : Record → List ℕ → Sheet
scoring r frames = as_sheet (checks ((sound_whole r else 20) ∷ []) (game (net_of r.network) frames))

-- ---- a file

-- 33 places: the number of balls, that of the scores known, 21 places for the pins felled, 10 for the running scores
unfoldable pub sheet_places : List ℕ → List ℕ
sheet_places felled = length felled ∷ length (running_scores felled) ∷ (places 21 0 felled ++ places 10 0 (running_scores felled))

-- the function for C: as read, 18 for fewer than 33 places, 27, then ball by ball
unfoldable pub score_places : List ℕ → List ℕ → ℕ → Answer (List ℕ)
score_places file frames lent = bind (open_net file lent 33) (λ N. bind (game N frames) (λ felled. accepted (sheet_places felled)))
