-- Each round leaves bits that rest on decisions.
use Rattle.std.proofs.Common.{arith}
use Rattle.compare_theory.proofs.ReasonLaws.{then, unclaimed}
use Rattle.compare_refutation.proofs.rules.propagate.Goals as goal

pub returns-in_default : goal.returns-in_default
returns-in_default c = then c.loop-round.invariant c.apply_round.ensures

pub loop-round-preserved : goal.loop-round-preserved
loop-round-preserved c = unclaimed 1 0 (λ e. omega arith) (then c.loop-round.invariant c.apply_round.ensures)
