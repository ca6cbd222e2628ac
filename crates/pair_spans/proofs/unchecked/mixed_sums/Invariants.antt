-- The settings passed have their sums.
use Rattle.pair_spans.specs.Spans.{MixedSums}
use Rattle.pair_spans.proofs.unchecked.mixed_sums.Given as goal

abbrev pub invariant-loop-low : goal.invariant-loop-low
invariant-loop-low l = MixedSums l.k l.l l.low l.sums_u l.sums_v l.mixes
