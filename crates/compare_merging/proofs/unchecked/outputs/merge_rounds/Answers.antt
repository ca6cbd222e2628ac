-- Merged further.
use Rattle.std.proofs.Common.{arith}
use Rattle.compare_merging.specs.MergeLaws.{merged_then}
use Rattle.compare_merging.proofs.unchecked.outputs.merge_rounds.Goals as goal

pub loop-turn-preserved : goal.loop-turn-preserved
loop-turn-preserved c = record {
  merged = merged_then c.requires c.loop-turn.invariant.merged c.merge_outputs-left-in-loop-turn.ensures.merged;
  few_steps = omega (arith, c.loop-turn.invariant.few_steps, c.merge_outputs-left-in-loop-turn.ensures.few_steps);
}
