use Rattle.std.proofs.Common.{◌<◌, IfSome}
use Rattle.compare_refutation.proofs.advice.heaviest.Given as goal

abbrev pub invariant-loop-i : goal.invariant-loop-i
invariant-loop-i l = IfSome l.best (λ c. c.signal < 296)
