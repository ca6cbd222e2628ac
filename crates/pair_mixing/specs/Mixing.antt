-- Internal: what a mix of two numbers asks of them. Nothing is proved here.
use Rattle.std.specs.Prelude.{ℕ, ◌≤◌, ℤ, nat_abs}
use Rattle.pair_theory.specs.Alignments.{DialLimits}

-- numbers no larger than a sum of 16 weights, and multipliers on the dial
pub record Mixable (k l : ℕ) (x y : ℤ) : Type 0 where
  pub dial : DialLimits k l
  pub x_small : nat_abs x ≤ 16000000
  pub y_small : nat_abs y ≤ 16000000
