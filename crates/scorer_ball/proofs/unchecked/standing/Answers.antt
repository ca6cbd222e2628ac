use Rattle.scorer_ball.specs.PinLaws.{pins_ones}
use Rattle.scorer_ball.proofs.unchecked.standing.Goals as goal

pub returns : goal.returns
returns c = pins_ones c.args.pins c.requires
