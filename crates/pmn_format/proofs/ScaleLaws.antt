-- Weights and thresholds within the scale, as facts. Assumes nothing.
use Rattle.std.specs.Prelude.{◌≤◌, not, T, ℤ, nat_abs}
use Rattle.std.proofs.Common.{arith, leb→le, SFits}
use Rattle.std.specs.Int.{w32}
use Rattle.basics.specs.SizeLaws.{size_fits}
use Rattle.basics.specs.Lists.{all, Each}
use Rattle.basics.specs.TestLaws.{T_and, and_T}
use Rattle.basics.specs.ListLaws.{each_of, of_each}
use Rattle.network.specs.Threshold.{Feed, Gate}
use Rattle.network.specs.Limits.{scale, in_scale, is_zero, weight_ok, scale_ok}

-- a number within the scale has 32 bits
pub scale_fits_lem : (z : ℤ) → T (in_scale z) → SFits w32 z
unfolding in_scale
scale_fits_lem z t = size_fits w32 z (let h : nat_abs z ≤ scale = leb→le (nat_abs z) scale t in omega arith)

-- a feed's weight is within the scale
pub weight_scale : (f : Feed) → T (weight_ok f) → T (in_scale f.weight)
unfolding weight_ok
weight_scale f t = (T_and (in_scale f.weight) (not (is_zero f.weight)) t).0

-- what a gate's scale says of T and of each weight, and back
pub scaled_threshold : (g : Gate) → T (scale_ok g) → T (in_scale g.threshold)
unfolding scale_ok
scaled_threshold g t = (T_and (in_scale g.threshold) (all weight_ok g.feeds) t).0

pub scaled_weights : (g : Gate) → T (scale_ok g) → Each (λ f. T (weight_ok f)) g.feeds
unfolding scale_ok
scaled_weights g t = each_of weight_ok (λ f. T (weight_ok f)) (λ f h. h) g.feeds (T_and (in_scale g.threshold) (all weight_ok g.feeds) t).1

pub of_scales : (g : Gate) → T (in_scale g.threshold) → Each (λ f. T (weight_ok f)) g.feeds → T (scale_ok g)
unfolding scale_ok
of_scales g t h = and_T (in_scale g.threshold) (all weight_ok g.feeds) t (of_each weight_ok (λ f. T (weight_ok f)) (λ f k. k) g.feeds h)
