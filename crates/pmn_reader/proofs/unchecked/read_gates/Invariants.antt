-- At each turn the record holds the gates read so far, and the others are read from the bytes that are left.
use Rattle.pmn_reader.proofs.GatesLoop.{GatesSoFar}
use Rattle.pmn_reader.proofs.unchecked.read_gates.Given as goal

abbrev pub invariant-loop-g : goal.invariant-loop-g
invariant-loop-g l = GatesSoFar l.bytes l.head.board l.head.inputs l.head.gates l.network l.g l.rest
