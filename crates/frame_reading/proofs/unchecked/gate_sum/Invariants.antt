-- The feeds so far are in the sum.
use Rattle.std.proofs.Common.{length}
use Rattle.frame_reading.specs.Evaluation.{bits_in}
use Rattle.frame_reading.proofs.SumLaws.{Added}
use Rattle.frame_reading.proofs.unchecked.gate_sum.Given as goal

abbrev pub invariant-loop-signal : goal.invariant-loop-signal
invariant-loop-signal l =
    Added 2147483648 (bits_in l.values) l.network.signals l.network.weights l.base l.count (length l.yielded) l.total
