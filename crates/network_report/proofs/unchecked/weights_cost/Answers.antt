-- The sum so far and the cost of the weights that are left come to the cost of the weights. Assumes nothing.
use Rattle.std.proofs.Common.{rules, arith, ◌∙◌, get_or, SFits}
use Rattle.std.specs.Prelude.{pos}
use Rattle.std.specs.Int.{w32}
use Rattle.network_report.proofs.CostLaws.{size_made, weights_next, weights_all}
use Rattle.network_report.proofs.unchecked.weights_cost.Goals as goal

pub loop-weight-preserved : goal.loop-weight-preserved
loop-weight-preserved c =
    let l = c.loop-weight in
    let fits : SFits w32 (get_or c.args.weights.now l.weight-index (pos 0)) = search rules in
    weights_next l.invariant (size_made fits (c.from-total.ensures ∙ c.unsigned_abs.ensures.value)) c.loop-weight-test.true

pub returns : goal.returns
returns c = weights_all c.loop-weight.invariant (omega arith)
