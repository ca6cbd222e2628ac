-- The sums passed lie between the two numbers.
use Rattle.pair_spans.specs.Spans.{Spanned}
use Rattle.pair_spans.proofs.unchecked.span.Given as goal

abbrev pub invariant-loop-sum : goal.invariant-loop-sum
invariant-loop-sum l = Spanned l.sum-index l.sums (record { least = l.least; most = l.most })
