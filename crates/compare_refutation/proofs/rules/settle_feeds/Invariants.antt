use Rattle.compare_theory.proofs.ReasonLaws.{Settling}
use Rattle.compare_refutation.proofs.rules.settle_feeds.Given as goal

abbrev pub invariant-loop-i : goal.invariant-loop-i
invariant-loop-i l = Settling l.fn.held.bits l.fn.held.rests l.wires l.weights l.goal l.room l.why l.held.bits l.held.rests
