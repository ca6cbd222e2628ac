use Rattle.std.specs.Prelude.{◌≤◌}
use Rattle.compare_theory.specs.Tables.{joint_of}
use Rattle.compare_theory.specs.Wiring.{Matched}
use Rattle.compare_merging.proofs.unchecked.outputs.compare_outputs.Given as goal

abbrev pub invariant-loop-j : goal.invariant-loop-j
invariant-loop-j l = record {
  matched : Matched l.j l.drivers (joint_of l.joint) l.outs;
  few_steps : l.left ≤ l.budget;
}
