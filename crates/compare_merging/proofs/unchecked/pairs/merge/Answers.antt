-- The two signals have one bit.
use Rattle.std.proofs.Common.{arith}
use Rattle.compare_merging.specs.MergeLaws.{merged_rewired}
use Rattle.compare_merging.specs.TwinLaws.{alike_of}
use Rattle.compare_merging.proofs.unchecked.pairs.merge.Goals as goal

pub returns-in-Refuted-clause-merged : goal.returns-in-Refuted-clause-merged
returns-in-Refuted-clause-merged c =
    let one = alike_of (rw c.in-Refuted.is at c.decide-result.ensures.shown) c.from.ensures c.from-2.ensures in
    merged_rewired c.args.p c.args.q c.requires.1 (omega (arith, c.requires.1, c.requires.2)) one c.rewire_rows.ensures c.rewire_outputs.ensures
