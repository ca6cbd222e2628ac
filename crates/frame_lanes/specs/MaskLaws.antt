-- Masks: the bit of a mask, and a weight under a mask. Assumes nothing.
use Rattle.std.specs.Prelude.{◌≡◌, refl, Bool, true, false, cond, ◌-◌, ◌^◌, ◌≤◌, ltb, ℤ, pos, negsuc, nat_abs, ◌+ℤ◌}
use Rattle.std.proofs.Common.{ap, ◌∙◌, mod-eq_of_lt, arith, SFits, to_z, of_z, to_z-of_z}
use Rattle.std.specs.Int.Bits.{bit_and, and_zero_l}
use Rattle.std.proofs.lemmas.Nat.{and_comm, and_mask}
use Rattle.std.specs.Int.Signed.{lt_z}
use Rattle.std.specs.Int.{w32}
use Rattle.std.proofs.Math.Facts.{Fits-of_z}
use Rattle.basics.specs.SizeLaws.{size_add, size_fits}
use Rattle.basics.specs.TestLaws.{is_false, not_below}
use Rattle.frame_lanes.specs.Lanes.{mask_of, is_on}

pub on_mask : (b : Bool) → is_on (mask_of b) ≡ b
on_mask true = refl
on_mask false = refl

-- the sign is the bit
pub on_sign : (m : ℤ) → lt_z m (pos 0) ≡ is_on m
on_sign (pos n) = is_false (ltb n 0) (not_below n 0 (omega arith))
on_sign (negsuc n) = refl

-- a weight under a mask, as the machine makes it
kept_bit : (b : Bool) (w : ℤ) → SFits w32 w → to_z w32 (bit_and (of_z w32 (mask_of b)) (of_z w32 w)) ≡ cond b w (pos 0)
kept_bit true w f =
    ap (to_z w32) (and_comm (2 ^ 32 - 1) (of_z w32 w) ∙ and_mask (of_z w32 w) 32 ∙ mod-eq_of_lt (Fits-of_z f).fits) ∙ to_z-of_z f
kept_bit false w f = ap (to_z w32) (and_zero_l (of_z w32 w))

pub kept_is : (m w : ℤ) → m ≡ mask_of (is_on m) → SFits w32 w → to_z w32 (bit_and (of_z w32 m) (of_z w32 w)) ≡ cond (is_on m) w (pos 0)
kept_is m w e f = ap (λ (x : ℤ). to_z w32 (bit_and (of_z w32 x) (of_z w32 w))) e ∙ kept_bit (is_on m) w f

-- a sum of 15 weights and one more fit 32 bits
pub under_fits : (z w : ℤ) (b : Bool) → nat_abs z ≤ 15000000 → nat_abs w ≤ 1000000 → SFits w32 (z +ℤ cond b w (pos 0))
under_fits z w true h k = size_fits w32 (z +ℤ w) (omega (arith, size_add z w))
under_fits z w false h k = size_fits w32 (z +ℤ pos 0) (omega (arith, size_add z (pos 0)))
