-- Each gate's rule leaves bits that rest on decisions; a contradiction on the way is one at the start.
use Rattle.std.proofs.Common.{arith}
use Rattle.compare_theory.proofs.ReasonLaws.{then, unclaimed}
use Rattle.compare_refutation.proofs.rules.apply_round.Goals as goal

pub returns-in-Clash : goal.returns-in-Clash
returns-in-Clash c = then c.loop-k.invariant c.in-Clash.ensures

pub loop-k-preserved : goal.loop-k-preserved
loop-k-preserved c = unclaimed 0 0 (λ e. omega arith) (then c.loop-k.invariant c.apply_listed.ensures)
