-- Each weight doubles the settings, from the one setting of no weight.
use Rattle.std.proofs.Common.{◌^◌}
use Rattle.gate_sums.specs.Tables.{Sums}
use Rattle.gate_sums.proofs.unchecked.table.Given as goal

abbrev pub invariant-loop-bit : goal.invariant-loop-bit
invariant-loop-bit l = Sums l.weights (2 ^ l.bit) l.sums
