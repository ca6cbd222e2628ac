use Rattle.std.proofs.Common.{sym, ◌∙◌, le-leb}
use Rattle.std.proofs.lemmas.Bool.{lt-leb}
use Rattle.basics.specs.Refusals.{checks}
use Rattle.refusals.specs.Numbers.{number_of}
use Rattle.scorer_theory.specs.Rules.{ball}
use Rattle.scorer_ball.specs.Words.{game_of}
use Rattle.scorer_ball.proofs.Lane.allows.Goals as goal

pub returns-then-self-gt10 : goal.returns-then-self-gt10
unfolding ball checks game_of number_of
returns-then-self-gt10 c = rw (lt-leb c.args.self.now.frame 10 c.if-self-gt10.true)

pub returns-then-raises : goal.returns-then-raises
unfolding ball checks game_of number_of
returns-then-raises c = rw (le-leb c.args.self.now.frame 10 c.if-self-gt10.false, sym c.raises.ensures ∙ c.if-raises.true)

pub returns : goal.returns
unfolding ball checks game_of
returns c = rw (le-leb c.args.self.now.frame 10 c.if-self-gt10.false, sym c.raises.ensures ∙ c.if-raises.false)
