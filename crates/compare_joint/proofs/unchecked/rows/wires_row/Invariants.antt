use Rattle.std.specs.Prelude.{get_or}
use Rattle.network.specs.Places.{Pasted}
use Rattle.question_theory.specs.Question.{second_variable}
use Rattle.compare_joint.proofs.unchecked.rows.wires_row.Given as goal

abbrev pub invariant-loop-i : goal.invariant-loop-i
invariant-loop-i l = Pasted 0 1 l.i (λ k. second_variable l.inputs l.shift (get_or l.gate.signals k 0)) l.initial.row l.row
