use Rattle.scorer_play.specs.Play.{Playing}
use Rattle.scorer_play.proofs.unchecked.play_balls.Given as goal

abbrev pub invariant-loop-balls : goal.invariant-loop-balls
invariant-loop-balls l = Playing l.words l.lane l.fn.felled l.felled l.balls
