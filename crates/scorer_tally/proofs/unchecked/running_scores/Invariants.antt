use Rattle.scorer_tally.specs.Tally.{Scoring}
use Rattle.scorer_tally.proofs.unchecked.running_scores.Given as goal

abbrev pub invariant-loop-frames : goal.invariant-loop-frames
invariant-loop-frames l = Scoring l.balls l.score-items l.left l.frames l.so_far
