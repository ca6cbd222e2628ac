-- Merged further.
use Rattle.std.proofs.Common.{arith}
use Rattle.compare_merging.specs.MergeLaws.{merged_then}
use Rattle.compare_merging.proofs.unchecked.outputs.merge_outputs.Goals as goal

pub loop-j-preserved : goal.loop-j-preserved
loop-j-preserved c = record {
  merged = merged_then c.requires c.loop-j.invariant.merged c.merge_output-left.ensures.merged;
  few_steps = omega (arith, c.loop-j.invariant.few_steps, c.merge_output-left.ensures.few_steps);
}
