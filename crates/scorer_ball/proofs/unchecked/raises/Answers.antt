use Rattle.std.proofs.Common.{sym}
use Rattle.scorer_ball.specs.PinLaws.{raised_word}
use Rattle.scorer_ball.proofs.unchecked.raises.Goals as goal

pub returns : goal.returns
returns c = sym (raised_word c.args.before c.args.after c.requires)
