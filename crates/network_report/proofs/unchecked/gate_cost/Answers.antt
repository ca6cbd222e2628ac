-- The size of the threshold and the cost of the weights are the gate's cost. Assumes nothing.
use Rattle.std.proofs.Common.{rules, arith, ◌∙◌, ◌+◌, ◌-◌, ◌*◌, get_or, SFits}
use Rattle.std.specs.Prelude.{pos}
use Rattle.std.specs.Int.{w32}
use Rattle.network_report.proofs.CostLaws.{size_made, gate_made}
use Rattle.network_report.proofs.unchecked.gate_cost.Goals as goal

pub returns : goal.returns
returns c =
    let b = 16 * c.args.g in
    let n = c.from.result in
    let fits : SFits w32 (get_or c.args.network.now.thresholds c.args.g (pos 0)) = search rules in
    gate_made n (b + n - b) (size_made fits (c.from-threshold.ensures ∙ c.unsigned_abs.ensures.value)) c.from.ensures (omega arith) (omega arith) (omega arith)
    c.weights_cost-total.ensures
