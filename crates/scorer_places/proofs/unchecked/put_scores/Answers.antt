use Rattle.std.proofs.Common.{arith}
use Rattle.scorer_places.specs.PlaceLaws.{copied_none, copied_next, copied_all}
use Rattle.scorer_places.proofs.unchecked.put_scores.Goals as goal

pub loop-i-init : goal.loop-i-init
loop-i-init c = copied_none _ _

pub loop-i-preserved : goal.loop-i-preserved
loop-i-preserved c = rw c.from.ensures (copied_next c.loop-i.invariant c.loop-i-test.true c.requires)

pub returns : goal.returns
returns c = copied_all c.loop-i.invariant (omega arith)
