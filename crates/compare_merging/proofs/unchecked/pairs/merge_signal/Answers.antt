-- Merged further.
use Rattle.compare_merging.specs.MergeLaws.{merged_then}
use Rattle.compare_merging.proofs.unchecked.pairs.merge_signal.Goals as goal

pub returns-clause-merged : goal.returns-clause-merged
returns-clause-merged c = merged_then c.requires.0 c.merge_one-twin.ensures.merged c.merge_one.ensures.merged
