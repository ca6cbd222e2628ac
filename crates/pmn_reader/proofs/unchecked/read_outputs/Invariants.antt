-- At each turn the first places hold the outputs read so far, and the others are read from the bytes that are left.
use Rattle.std.proofs.Common.{length}
use Rattle.pmn_reader.proofs.OutputsLoop.{OutputsSoFar}
use Rattle.pmn_reader.proofs.unchecked.read_outputs.Given as goal

abbrev pub invariant-loop-driver : goal.invariant-loop-driver
invariant-loop-driver l = OutputsSoFar l.bytes l.head.inputs l.head.gates (length l.fn.drivers) l.driver-items l.driver-index l.rest
