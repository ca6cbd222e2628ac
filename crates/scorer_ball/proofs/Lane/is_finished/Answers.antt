use Rattle.std.proofs.Common.{lt-ltb, le-ltb}
use Rattle.scorer_theory.specs.Rules.{finished}
use Rattle.scorer_ball.proofs.Lane.is_finished.Goals as goal

pub returns-then-self-lt10 : goal.returns-then-self-lt10
unfolding finished
returns-then-self-lt10 c = rw (lt-ltb c.args.self.now.frame 10 c.if-self-lt10.true)

pub returns-else-self-lt10 : goal.returns-else-self-lt10
unfolding finished
returns-else-self-lt10 c = rw (le-ltb c.args.self.now.frame 10 c.if-self-lt10.false)
