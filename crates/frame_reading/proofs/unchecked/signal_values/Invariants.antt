-- The gates from g on, run on the bits of the array, come to the bits of all signals.
use Rattle.basics.specs.Lists.{tab}
use Rattle.network.specs.Threshold.{run, frame}
use Rattle.network.specs.Record.{gate_of}
use Rattle.frame_reading.proofs.SignalLaws.{GatesLeft}
use Rattle.frame_reading.proofs.unchecked.signal_values.Given as goal

abbrev pub invariant-loop-g : goal.invariant-loop-g
invariant-loop-g l =
    GatesLeft (gate_of l.network) l.network.inputs l.network.gates
    (run l.network.inputs (tab l.network.gates (gate_of l.network)) (frame l.x)) l.g l.values
