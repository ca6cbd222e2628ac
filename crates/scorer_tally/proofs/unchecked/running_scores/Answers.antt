use Rattle.std.proofs.lemmas.List.{take_rest, set-get_or}
use Rattle.std.proofs.Common.{arith}
use Rattle.scorer_tally.specs.TallyLaws.{scoring_none, scoring_next, scoring_stopped, scoring_ended}
use Rattle.scorer_tally.proofs.unchecked.running_scores.Goals as goal

pub loop-frames-init : goal.loop-frames-init
loop-frames-init c = scoring_none _

pub returns-then-left-frame : goal.returns-then-left-frame
returns-then-left-frame c =
    rw (set-get_or c.loop-frames.score-items c.loop-frames.frames 0)
    (scoring_stopped c.loop-frames.invariant c.frame_of-frame.ensures (omega arith) c.if-left-frame.true)

pub loop-frames-preserved : goal.loop-frames-preserved
loop-frames-preserved c = rw take_rest (scoring_next c.loop-frames.invariant c.frame_of-frame.ensures (omega arith) (omega arith))

pub returns : goal.returns
returns c = scoring_ended c.loop-frames.invariant (omega arith)
