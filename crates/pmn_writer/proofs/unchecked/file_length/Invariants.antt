-- The total is the length of the header, at most 10, and of the first gates, at most 85 for each.
use Rattle.std.proofs.Common.{◌≡◌, ◌+◌, ◌*◌, ◌≤◌}
use Rattle.pmn_writer.specs.Writing.{gates_length}
use Rattle.pmn_writer.proofs.unchecked.file_length.Given as goal

abbrev pub invariant-loop-fanin : goal.invariant-loop-fanin
invariant-loop-fanin l = record {
  total : l.total ≡ l.initial.total + gates_length l.network.fanins l.fanin-index;
  bound : l.total ≤ 10 + 85 * l.fanin-index;
}
