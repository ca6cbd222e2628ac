use Rattle.std.specs.Prelude.{get_or, replicate}
use Rattle.network.specs.Places.{Pasted}
use Rattle.question_theory.specs.Question.{second_variable}
use Rattle.compare_joint.proofs.unchecked.rows.joint_outputs.Given as goal

abbrev pub invariant-loop-j : goal.invariant-loop-j
invariant-loop-j l = Pasted 0 0 l.j (λ k. second_variable l.second.inputs l.gates (get_or l.second.drivers k 0)) (replicate 16 0) l.outs
