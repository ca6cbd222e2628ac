-- The pairs of the gates passed so far stand in the arrays.
use Rattle.network.specs.Record.{gate_of}
use Rattle.fold_reader_pairs.proofs.PairingLaws.{Found}
use Rattle.fold_reader_pairs.proofs.unchecked.reader_pairs.Given as goal

abbrev pub invariant-loop-g : goal.invariant-loop-g
invariant-loop-g l = Found l.network.board (gate_of l.network) l.network.inputs l.u l.g l.pairs.ks l.pairs.ls
