-- Internal: what the tally of one frame holds, and what the loop over the frames keeps. Nothing is proved here.
use Rattle.std.specs.Prelude.{◌≡◌, List, ◌++◌, ℕ, ◌-◌, ◌*◌, ◌≤◌, length, drop}
use Rattle.basics.specs.Lists.{places}
use Rattle.scorer_theory.specs.Scores.{own_balls, counted_balls, frame_score, scores_from, running_scores}
use Rattle.scorer_tally.specs.declared.FrameCount.{FrameCount}
use Rattle.scorer_tally.specs.declared.Scored.{Scored}

-- running scores as the sheet gives them, spare places 0
unfoldable pub as_scored : List ℕ → Scored
as_scored ns = record { frames = length ns; scores = places 10 0 ns }

-- r counts the frame that starts a list of balls; its score holds once all its balls are there
pub record FrameCounted (balls : List ℕ) (r : FrameCount) : Type 0 where
  pub own : r.own ≡ own_balls balls
  pub all : r.counted ≡ counted_balls balls
  pub score : counted_balls balls ≤ length balls → r.score ≡ frame_score balls
  pub few : r.counted ≤ 3
  pub small : r.score ≤ 765

-- these are the scores of a game so far, which has come to so many pins, and these balls are left
pub record Tallied (balls done rest : List ℕ) (so_far : ℕ) : Type 0 where
  pub small : so_far ≤ 765 * length done
  pub left : done ++ scores_from (10 - length done) so_far rest ≡ running_scores balls

-- so many frames of a game are scored, the balls that are left start at a place, and the scores stand in ten places
pub record Scoring (balls scores rest : List ℕ) (frames so_far : ℕ) : Type 0 where
  pub done : List ℕ
  pub many : frames ≡ length done
  pub within : frames ≤ 10
  pub at : ℕ
  pub thrown : at ≤ length balls
  pub next : rest ≡ drop at balls
  pub small : so_far ≤ 765 * frames
  pub stored : scores ≡ places 10 0 done
  pub left : done ++ scores_from (10 - frames) so_far rest ≡ running_scores balls
