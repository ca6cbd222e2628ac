-- 32 times 18 million, twice, is in the range of 32 bits. Assumes nothing.
use Prim.Native.Nat.{ℕ, ◌≤◌}
use mathlib.Core.Path.{◌≡◌}
use native.Mathlib.Nat.{mul-le-mul}
use native.Mathlib.Omega.{arith}
use lib.IntN.{ℤ, pos, nat_abs, ◌+ℤ◌, ◌*ℤ◌}
use mir.Syntax.{w32}
use mir.Val.{SFits, to_z}
use mir.Facts.{to_z-of_z}
use Rattle.basics.specs.SizeLaws.{size_add, size_mul, size_fits}
use borrow.Author.Rules.{rules}
use Rattle.pair_bounds.proofs.unchecked.value.Statement.{statement}
use Rattle.pair_bounds.proofs.unchecked.value.Tie as tie

-- a multiple by at most 32
times : (k : ℕ) (z : ℤ) → k ≤ 32 → nat_abs z ≤ 18000000 → nat_abs (pos k *ℤ z) ≤ 576000000
times k z h e = rw size_mul (mul-le-mul h e)

-- a term as the cast leaves it
cast : (k : ℕ) → k ≤ 32 → to_z w32 k ≡ pos k
cast k h = to_z-of_z {z = pos k} (size_fits w32 (pos k) (omega arith))

module _ (c : tie.Start) where
  abbrev ka : ℤ
  ka = pos c.args.fraction.k *ℤ c.args.a

  abbrev lc : ℤ
  lc = pos c.args.fraction.l *ℤ c.args.c

  k_is : to_z w32 c.args.fraction.k ≡ pos c.args.fraction.k
  k_is = cast c.args.fraction.k c.requires.0.k_high

  l_is : to_z w32 c.args.fraction.l ≡ pos c.args.fraction.l
  l_is = cast c.args.fraction.l c.requires.0.l_high

  -- the two products, and their sum
  ka_size : nat_abs ka ≤ 576000000
  ka_size = times c.args.fraction.k c.args.a c.requires.0.k_high c.requires.1.0

  lc_size : nat_abs lc ≤ 576000000
  lc_size = times c.args.fraction.l c.args.c c.requires.0.l_high c.requires.1.1

  ka_fits : SFits w32 ka
  ka_fits = size_fits w32 ka (omega (arith, ka_size))

  lc_fits : SFits w32 lc
  lc_fits = size_fits w32 lc (omega (arith, lc_size))

  sum_fits : SFits w32 (ka +ℤ lc)
  sum_fits = size_fits w32 (ka +ℤ lc) (omega (arith, ka_size, lc_size, size_add ka lc))

mul_result : tie.Need-overflow_mul-result
mul_result c = let s = c.before in simp (k_is s, to_z-of_z s.ranges.a) (ka_fits s)

mul_result_2 : tie.Need-overflow_mul-result-2
mul_result_2 c = let s = c.before.before in simp (l_is s, to_z-of_z s.ranges.c) (lc_fits s)

add_result : tie.Need-overflow_add-result
add_result c =
    let s = c.before.before in
    simp (k_is s, l_is s, to_z-of_z s.ranges.a, to_z-of_z s.ranges.c, to_z-of_z (ka_fits s), to_z-of_z (lc_fits s)) (sum_fits s)

pub value_spec : {M : Type 1} → statement M
value_spec =
    tie.close (tie.spec (λ c. search rules) mul_result (λ c. search rules) mul_result_2 add_result (λ c. search rules))
