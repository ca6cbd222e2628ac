-- Internal: where settings that bound k / l and fractions beside such bounds lie. Nothing is proved here.
use Rattle.std.specs.Prelude.{ℕ, ◌+◌, ◌*◌, ◌≤◌, ◌<◌, nat_abs}
use Rattle.pair_theory.specs.Alignments.{DialLimits}
use Rattle.pair_bounds.specs.declared.Remembered.{Remembered}
use Rattle.pair_bounds.specs.declared.Bounds.{Bounds}
use Rattle.pair_bounds.specs.declared.Neighbours.{Neighbours}

-- the remembered settings are below n
pub record RememberedWithin (n : ℕ) (r : Remembered) : Type 0 where
  pub last_in : r.last < n
  pub earlier_in : r.earlier < n

-- so are the settings that give bounds
pub record BoundsWithin (n : ℕ) (b : Bounds) : Type 0 where
  pub above_in : b.above < n
  pub below_in : b.below < n

-- the terms of the fractions are no more than the dial has
pub record BoundsOnDial (b : Bounds) : Type 0 where
  pub least_on : DialLimits b.least.k b.least.l
  pub most_on : DialLimits b.most.k b.most.l

-- so are those of neighbours, and k * a + l * c at each is no larger than the terms allow
pub record NeighboursOnDial (p : Neighbours) : Type 0 where
  pub below_on : DialLimits p.below.k p.below.l
  pub above_on : DialLimits p.above.k p.above.l
  pub below_small : nat_abs p.low ≤ 18000000 * (p.below.k + p.below.l)
  pub above_small : nat_abs p.high ≤ 18000000 * (p.above.k + p.above.l)
