use Rattle.std.specs.Prelude.{◌+◌, get_or}
use Rattle.network.specs.Places.{Pasted}
use Rattle.compare_theory.specs.Wiring.{moved}
use Rattle.compare_joint.proofs.unchecked.wiring.move_row.Given as goal

abbrev pub invariant-loop-i : goal.invariant-loop-i
invariant-loop-i l = Pasted 0 1 l.i (λ k. moved l.p l.q (get_or l.fn.row (1 + k) 0)) l.fn.row l.row
