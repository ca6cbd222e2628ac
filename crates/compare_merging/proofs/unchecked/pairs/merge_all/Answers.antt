-- Merged further.
use Rattle.std.proofs.Common.{arith}
use Rattle.compare_merging.specs.MergeLaws.{merged_then}
use Rattle.compare_merging.proofs.unchecked.pairs.merge_all.Goals as goal

pub loop-q-preserved : goal.loop-q-preserved
loop-q-preserved c = record {
  merged = merged_then c.requires c.loop-q.invariant.merged c.merge_signal-left.ensures.merged;
  few_steps = omega (arith, c.loop-q.invariant.few_steps, c.merge_signal-left.ensures.few_steps);
}
