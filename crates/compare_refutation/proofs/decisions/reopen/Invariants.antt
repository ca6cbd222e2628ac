use Rattle.std.proofs.Common.{◌≡◌}
use Rattle.compare_theory.proofs.DecisionLaws.{Reopening}
use Rattle.compare_refutation.proofs.decisions.reopen.Given as goal

abbrev pub invariant-loop-k : goal.invariant-loop-k
invariant-loop-k l = record {
  looked_at : Reopening l.level l.fn.held.rests l.fn.held.bits l.k l.held.bits;
  rests_same : l.held.rests ≡ l.fn.held.rests;
}
