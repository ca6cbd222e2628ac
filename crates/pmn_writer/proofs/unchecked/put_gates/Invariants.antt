-- The first g gates stand at the front, and after them what stood there at first.
use Rattle.std.proofs.Common.{◌≡◌, ◌++◌, drop}
use Rattle.pmn_writer.specs.Writing.{first_gates, gates_length}
use Rattle.pmn_writer.proofs.unchecked.put_gates.Given as goal

abbrev pub invariant-loop-g : goal.invariant-loop-g
invariant-loop-g l = record {
  at : l.at ≡ gates_length l.network.fanins l.g;
  front : l.out ≡ first_gates l.network.fanins l.network.thresholds l.network.signals l.network.weights l.g ++ drop l.at l.fn.out;
}
