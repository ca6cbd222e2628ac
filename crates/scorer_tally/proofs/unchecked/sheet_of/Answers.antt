use Rattle.scorer_tally.specs.TallyLaws.{sheet_made}
use Rattle.scorer_tally.proofs.unchecked.sheet_of.Goals as goal

pub returns : goal.returns
returns c = rw (c.copy_from_slice.ensures.after) (sheet_made c.args.balls.now c.requires c.running_scores-frames.ensures)
