-- The sheet of a game: what the scorer answers. Nothing is proved here.
use Rattle.std.specs.Prelude.{List, ℕ, length, replicate}
use Rattle.basics.specs.Lists.{places}
use Rattle.basics.specs.Refusals.{Answer, accepted, refused}
use Rattle.scorer_theory.specs.Scores.{running_scores}
use Rattle.scorer_tally.specs.declared.Sheet.{Sheet}

-- the answer as the call gives it; a refusal has 0 everywhere
unfoldable pub as_sheet : Answer (List ℕ) → Sheet
as_sheet (accepted felled) = record {
  code = 0;
  balls = length felled;
  felled = places 21 0 felled;
  scored = length (running_scores felled);
  scores = places 10 0 (running_scores felled);
}
as_sheet (refused c) = record { code = c; balls = 0; felled = replicate 21 0; scored = 0; scores = replicate 10 0 }
