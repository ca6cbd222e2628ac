-- `mixed` meets its contract: 32 times a sum of 16 weights, twice, is in the range of 32 bits. Assumes nothing.
use Prim.Native.Nat.{ℕ, ◌*◌, ◌≤◌}
use mathlib.Core.Path.{◌≡◌}
use native.Mathlib.Nat.{mul-le-mul}
use native.Mathlib.Omega.{arith}
use lib.IntN.{ℤ, pos, nat_abs, ◌+ℤ◌, ◌*ℤ◌}
use mir.Syntax.{w32}
use mir.Val.{SFits, to_z}
use mir.Facts.{to_z-of_z}
use Rattle.basics.specs.SizeLaws.{size_add, size_mul, size_fits}
use borrow.Author.Rules.{rules}
use Rattle.pair_mixing.proofs.unchecked.mixed.Statement.{statement}
use Rattle.pair_mixing.proofs.unchecked.mixed.Tie as tie

-- a multiple by at most 32
times : (k n : ℕ) (z : ℤ) → k ≤ 32 → nat_abs z ≤ n → nat_abs (pos k *ℤ z) ≤ 32 * n
times k n z h e = rw size_mul (mul-le-mul h e)

-- a multiplier as the cast leaves it
cast : (k : ℕ) → k ≤ 32 → to_z w32 k ≡ pos k
cast k h = to_z-of_z {z = pos k} (size_fits w32 (pos k) (omega arith))

module _ (c : tie.Start) where
  abbrev kx : ℤ
  kx = pos c.args.k *ℤ c.args.x

  abbrev ly : ℤ
  ly = pos c.args.l *ℤ c.args.y

  -- the multipliers, as the casts leave them
  k_is : to_z w32 c.args.k ≡ pos c.args.k
  k_is = cast c.args.k c.requires.dial.k_high

  l_is : to_z w32 c.args.l ≡ pos c.args.l
  l_is = cast c.args.l c.requires.dial.l_high

  -- the two products, and their sum
  kx_fits : SFits w32 kx
  kx_fits = size_fits w32 kx (omega (arith, times c.args.k _ c.args.x c.requires.dial.k_high c.requires.x_small))

  ly_fits : SFits w32 ly
  ly_fits = size_fits w32 ly (omega (arith, times c.args.l _ c.args.y c.requires.dial.l_high c.requires.y_small))

  sum_fits : SFits w32 (kx +ℤ ly)
  sum_fits =
      let kx_size = times c.args.k _ c.args.x c.requires.dial.k_high c.requires.x_small in
      let ly_size = times c.args.l _ c.args.y c.requires.dial.l_high c.requires.y_small in
      size_fits w32 (kx +ℤ ly) (omega (arith, kx_size, ly_size, size_add kx ly))

mul_result : tie.Need-overflow_mul-result
mul_result c = simp (k_is c, to_z-of_z c.ranges.x) (kx_fits c)

mul_result_2 : tie.Need-overflow_mul-result-2
mul_result_2 c = simp (l_is c, to_z-of_z c.ranges.y) (ly_fits c)

add_result : tie.Need-overflow_add-result
add_result c =
    simp (k_is c, l_is c, to_z-of_z c.ranges.x, to_z-of_z c.ranges.y, to_z-of_z (kx_fits c), to_z-of_z (ly_fits c)) (sum_fits c)

returns : tie.Need-returns
returns c =
    simp (k_is c, l_is c, to_z-of_z c.ranges.x, to_z-of_z c.ranges.y, to_z-of_z (kx_fits c), to_z-of_z (ly_fits c), to_z-of_z (sum_fits c))

pub mixed_spec : {M : Type 1} → statement M
mixed_spec = tie.close (tie.spec (λ c. search rules) mul_result (λ c. search rules) mul_result_2 add_result returns)
