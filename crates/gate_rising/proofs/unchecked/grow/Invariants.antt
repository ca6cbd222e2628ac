-- Each turn has put one member at the front and one at the back.
use Rattle.gate_rising.proofs.Weaving.{Weaving}
use Rattle.gate_rising.proofs.unchecked.grow.Given as goal

abbrev pub invariant-loop-k : goal.invariant-loop-k
invariant-loop-k l = Weaving l.n l.weight l.initial.sums l.k l.k l.a l.b l.c l.d l.sums
