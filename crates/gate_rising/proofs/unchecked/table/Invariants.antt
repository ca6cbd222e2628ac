-- The weights so far, from the last on, have their sums.
use Rattle.std.proofs.Common.{◌-◌, length}
use Rattle.gate_rising.proofs.TableLaws.{Filling}
use Rattle.gate_rising.proofs.unchecked.table.Given as goal

abbrev pub invariant-loop-weight : goal.invariant-loop-weight
invariant-loop-weight l = Filling l.weights (length l.weights - length l.yielded) l.n l.sums
