-- Merged further.
use Rattle.compare_merging.specs.MergeLaws.{merged_then}
use Rattle.compare_merging.proofs.unchecked.match_outputs.Goals as goal

pub returns-clause-merged : goal.returns-clause-merged
returns-clause-merged c = merged_then c.requires.0 c.merge_all-after.ensures.merged c.merge_rounds-left.ensures.merged

pub returns-in-Some-clause-merged : goal.returns-in-Some-clause-merged
returns-in-Some-clause-merged c = merged_then c.requires.0 c.merge_all-after.ensures.merged c.merge_rounds-left.ensures.merged
