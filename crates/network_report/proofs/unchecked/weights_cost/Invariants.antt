-- The sizes of the weights passed are added.
use Rattle.network_report.proofs.CostLaws.{WeightsAdded}
use Rattle.network_report.proofs.unchecked.weights_cost.Given as goal

abbrev pub invariant-loop-weight : goal.invariant-loop-weight
invariant-loop-weight l = WeightsAdded l.weights l.weight-index l.total
