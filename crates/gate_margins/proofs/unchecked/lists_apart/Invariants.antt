-- No member that was passed makes a sum between floor and ceiling.
use Rattle.std.proofs.Common.{◌+◌, ◌-◌, length, get_or}
use Rattle.std.specs.Prelude.{pos}
use Rattle.gate_margins.proofs.Walk.{Walk}
use Rattle.gate_margins.proofs.unchecked.lists_apart.Given as goal

abbrev pub invariant-loop-i : goal.invariant-loop-i
invariant-loop-i l = Walk (λ x. get_or l.lows x (pos 0)) (λ y. get_or l.highs y (pos 0)) (length l.lows) (length l.highs) l.floor l.ceiling l.i l.j l.p l.q

abbrev pub decreases-loop-i : goal.decreases-loop-i
decreases-loop-i l = length l.lows - l.i + (length l.highs - l.q) + l.p + l.j
