use Rattle.std.specs.Prelude.{◌≤◌}
use Rattle.compare_theory.specs.Tables.{joint_of}
use Rattle.compare_merging.specs.Merging.{Merged}
use Rattle.compare_merging.proofs.unchecked.pairs.merge_all.Given as goal

abbrev pub invariant-loop-q : goal.invariant-loop-q
invariant-loop-q l = record {
  merged : Merged (joint_of l.fn.joint) l.fn.outs (joint_of l.joint) l.outs;
  few_steps : l.left ≤ l.budget;
}
