-- Merged further.
use Rattle.std.proofs.Common.{arith}
use Rattle.compare_merging.specs.MergeLaws.{merged_then}
use Rattle.compare_merging.proofs.unchecked.pairs.merge_one.Goals as goal

pub loop-p-preserved : goal.loop-p-preserved
loop-p-preserved c = record {
  merged = merged_then c.requires.0 c.loop-p.invariant.merged c.merge_marked-tried.ensures.merged;
  few_steps = omega (arith, c.loop-p.invariant.few_steps, c.merge_marked-tried.ensures.few_steps);
}

pub returns-then-tried-clause-merged : goal.returns-then-tried-clause-merged
returns-then-tried-clause-merged c = merged_then c.requires.0 c.loop-p.invariant.merged c.merge_marked-tried.ensures.merged
