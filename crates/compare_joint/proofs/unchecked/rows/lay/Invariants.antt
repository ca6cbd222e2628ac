use Rattle.std.specs.Prelude.{[], ◌≡◌}
use Rattle.network.specs.Places.{Pasted}
use Rattle.network.specs.Record.{row_at}
use Rattle.question_theory.specs.Question.{second_variable}
use Rattle.compare_joint.specs.Rows.{wires_row, weights_row}
use Rattle.compare_joint.proofs.unchecked.rows.lay.Given as goal

abbrev pub invariant-loop-g : goal.invariant-loop-g
invariant-loop-g l = record {
  wires_put : Pasted [] l.start l.g
      (λ k. wires_row (second_variable l.network.inputs l.start) (row_at l.network.fanins l.network.thresholds l.network.signals l.network.weights k))
      l.fn.joint.wires l.joint.wires;
  weights_put : Pasted [] l.start l.g (λ k. weights_row (row_at l.network.fanins l.network.thresholds l.network.signals l.network.weights k))
      l.fn.joint.weights l.joint.weights;
  inputs_same : l.joint.inputs ≡ l.fn.joint.inputs;
  gates_same : l.joint.gates ≡ l.fn.joint.gates;
}
