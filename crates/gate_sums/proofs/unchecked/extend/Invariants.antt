-- The settings below filled + j have their sums.
use Rattle.std.proofs.Common.{◌+◌, ◌≤◌}
use Rattle.gate_sums.specs.Tables.{Sums}
use Rattle.gate_sums.proofs.unchecked.extend.Given as goal

abbrev pub invariant-loop-j : goal.invariant-loop-j
invariant-loop-j l = record { few : l.filled ≤ 128; part : Sums l.weights (l.filled + l.j) l.sums }
