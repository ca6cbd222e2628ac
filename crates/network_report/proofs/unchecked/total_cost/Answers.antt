-- The sum so far and the cost of the gates that are left come to the cost of all gates. Assumes nothing.
use Rattle.std.proofs.Common.{arith}
use Rattle.network_report.proofs.CostLaws.{gates_next, gates_all}
use Rattle.network_report.proofs.unchecked.total_cost.Goals as goal

pub loop-g-preserved : goal.loop-g-preserved
loop-g-preserved c =
    let cost = c.gate_cost-total.ensures in
    gates_next c.loop-g.invariant (cost.is c.args.network.now.signals) cost.small c.loop-g-test.true

pub returns : goal.returns
returns c = gates_all c.loop-g.invariant (omega arith)
