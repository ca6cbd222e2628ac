-- The bounds so far are on the dial, and given by settings of the block or those known before.
use Rattle.std.proofs.Common.{ℕ, ◌+◌, ◌*◌, ◌<◌}
use Rattle.pair_bounds.specs.Ranges.{BoundsOnDial, BoundsWithin}
use Rattle.pair_bounds.proofs.unchecked.bounded_by_block.Given as goal

abbrev pub invariant-loop-low : goal.invariant-loop-low
invariant-loop-low l = record {
  on_dial : BoundsOnDial l.bounds;
  within : (n : ℕ) → BoundsWithin n l.initial.bounds → ((j : ℕ) → j < l.lows → 256 * l.high + j < n) → BoundsWithin n l.bounds;
}
