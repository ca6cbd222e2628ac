-- Sums of weights as the code adds them, in 32 bits. Assumes nothing.
use Rattle.std.specs.Prelude.{◌≡◌, ℕ, ◌+◌, ◌*◌, ◌≤◌, ◌<◌, ℤ, pos, nat_abs, ◌+ℤ◌}
use Rattle.std.proofs.Common.{sym, ap, ◌∙◌, subst, arith, to_z-of_z, SFits, to_z, of_z}
use Rattle.std.proofs.Math.IntN.{+ℤ_idr}
use Rattle.std.specs.Int.{w32}
use Rattle.basics.specs.SizeLaws.{size_add, size_fits}
use Rattle.network.specs.Limits.{scale}

-- a small number is read back as it is
pub small_back : (z : ℤ) → nat_abs z ≤ scale → to_z w32 (of_z w32 z) ≡ z
small_back z h = to_z-of_z (size_fits w32 z (omega arith))

-- the bits s hold the sum z of at most i weights
pub record Summed (s : ℕ) (z : ℤ) (i : ℕ) : Type 0 where
  pub holds : to_z w32 s ≡ z
  pub small : nat_abs z ≤ i * scale

pub summed_is : {s i : ℕ} {y z : ℤ} → y ≡ z → Summed s y i → Summed s z i
summed_is {s} {i} e a = subst (λ (x : ℤ). Summed s x i) e a

module _ {s i : ℕ} {z : ℤ} (a : Summed s z i) (w : ℤ) (h : nat_abs w ≤ scale) (k : i < 16) where
  sum_fits : SFits w32 (z +ℤ w)
  sum_fits = size_fits w32 (z +ℤ w) (omega (arith, size_add z w, a.small))

  -- the addition does not wrap
  pub add_fits : SFits w32 (to_z w32 s +ℤ to_z w32 (of_z w32 w))
  add_fits = rw (a.holds, small_back w h) sum_fits

  -- one weight more
  pub summed_more : {t : ℕ} {x : ℤ} → t ≡ of_z w32 (to_z w32 s +ℤ to_z w32 (of_z w32 w)) → x ≡ w → Summed t (z +ℤ x) (i + 1)
  summed_more d e = rw (d, e) (record { holds = rw (a.holds, small_back w h) (to_z-of_z sum_fits); small = omega (arith, size_add z w, a.small) })

  -- a weight that is left out
  pub summed_same : {t : ℕ} {x : ℤ} → t ≡ s → x ≡ pos 0 → Summed t (z +ℤ x) (i + 1)
  summed_same d e = rw (d, e) (record { holds = a.holds ∙ sym (+ℤ_idr z); small = omega (arith, a.small, ap nat_abs (+ℤ_idr z)) })
