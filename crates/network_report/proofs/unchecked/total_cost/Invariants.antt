-- The costs of the gates passed are added.
use Rattle.network.specs.Record.{gate_of}
use Rattle.network_report.proofs.CostLaws.{GatesAdded}
use Rattle.network_report.proofs.unchecked.total_cost.Given as goal

abbrev pub invariant-loop-g : goal.invariant-loop-g
invariant-loop-g l = GatesAdded (gate_of l.network) l.network.gates l.g l.total
