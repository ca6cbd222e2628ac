use Rattle.std.specs.Prelude.{[], get_or}
use Rattle.network.specs.Places.{Pasted}
use Rattle.compare_theory.specs.Wiring.{moved_row}
use Rattle.compare_joint.proofs.unchecked.wiring.rewire_rows.Given as goal

abbrev pub invariant-loop-row : goal.invariant-loop-row
invariant-loop-row l = Pasted [] 0 l.row-index (λ k. moved_row l.p l.q (get_or l.fn.rows k [])) l.fn.rows l.rows
