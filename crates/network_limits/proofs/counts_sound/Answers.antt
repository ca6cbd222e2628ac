-- A number is in a range if it is between its ends. Assumes nothing.
use Rattle.std.proofs.Common.{◌≡◌, ℕ, leb, arith}
use Rattle.std.specs.Ordering.{nat_cmp, is_le}
use Rattle.std.proofs.lemmas.Bool.Decides.{nat_tests}
use Rattle.basics.specs.Lists.{between}
use Rattle.network.specs.RecordTests.{counts_ok}
use Rattle.network_limits.proofs.counts_sound.Goals as goal

le_test : (x y : ℕ) → is_le (nat_cmp x y) ≡ leb x y
le_test x y = grind (arith, nat_tests)

pub returns : goal.returns
unfolding counts_ok between
returns c = simp (
  c.contains.ensures.value,
  c.new.ensures.start,
  c.new.ensures.end,
  c.new.ensures.exhausted,
  c.contains-2.ensures.value,
  c.new-2.ensures.start,
  c.new-2.ensures.end,
  c.new-2.ensures.exhausted,
  c.contains-3.ensures.value,
  c.new-3.ensures.start,
  c.new-3.ensures.end,
  c.new-3.ensures.exhausted,
  le_test,
)
