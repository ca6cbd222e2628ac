use Rattle.std.proofs.Common.{◌<◌, IfSome}
use Rattle.compare_refutation.proofs.advice.pick.Given as goal

abbrev pub invariant-loop-g : goal.invariant-loop-g
invariant-loop-g l = IfSome l.spare (λ c. c.signal < 296)
