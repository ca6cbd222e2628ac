-- The table has the weights of the feeds from i on.
use Rattle.std.proofs.Common.{◌≡◌, ◌-◌}
use Rattle.network.specs.Record.{feeds_from}
use Rattle.pair_theory.specs.Alignments.{weight_table}
use Rattle.pair_alignment.proofs.unchecked.spread.Given as goal

abbrev pub invariant-loop-i : goal.invariant-loop-i
invariant-loop-i l = l.table ≡ weight_table (feeds_from l.gate.signals l.gate.weights l.i (l.gate.fanin - l.i))
