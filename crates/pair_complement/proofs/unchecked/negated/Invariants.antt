-- The numbers passed so far are negated, the others as they were.
use Rattle.std.proofs.Common.{◌≡◌}
use Rattle.pair_complement.proofs.Front.{front}
use Rattle.pair_complement.proofs.unchecked.negated.Given as goal

abbrev pub invariant-loop-number : goal.invariant-loop-number
invariant-loop-number l = l.number-items ≡ front l.number-index l.fn.numbers
