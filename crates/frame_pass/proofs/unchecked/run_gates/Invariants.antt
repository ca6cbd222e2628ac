-- The gates from g on are left in every lane.
use Rattle.network.specs.Record.{gate_of}
use Rattle.frame_pass.proofs.SignalLaneLaws.{GateLanes}
use Rattle.frame_pass.proofs.unchecked.run_gates.Given as goal

abbrev pub invariant-loop-g : goal.invariant-loop-g
invariant-loop-g l = GateLanes (gate_of l.network) l.network.inputs l.network.gates l.lanes l.initial.masks l.g l.masks
