-- The size |z| of an integer, which bounds sums and products and says whether a number fits a signed type. Assumes nothing.
use Rattle.std.specs.Prelude.{◌≡◌, refl, Bool, true, false, cond, ℕ, zero, suc, ◌+◌, ◌-◌, ◌*◌, ◌^◌, ◌≤◌, ◌<◌, T, ltb, ℤ, pos, negsuc, nat_abs, neg_ℤ, ◌+ℤ◌, ◌-ℤ◌, ◌*ℤ◌, List, get_or}
use Rattle.std.proofs.Common.{ap, ◌∙◌, le_refl, arith, ltb-true, to_z-of_z}
use Rattle.std.proofs.Math.IntN.{+ℤ_idl}
use Rattle.std.specs.Int.Signed.{mag, lt_z, non_neg}
use Rattle.std.specs.Int.{Width, w32, w64}
use Rattle.std.proofs.Math.Facts.{sfits_widen}
use mir.Val.{SFits, hbits, to_z, of_z}

-- no number of the list is above n in size
abbrev pub SizesWithin : ℕ → List ℤ → Type 0
SizesWithin n zs = (i : ℕ) → nat_abs (get_or zs i (pos 0)) ≤ n

-- ---- sums and products
sub_size : (b : Bool) (m n : ℕ) → ltb m n ≡ b → nat_abs (cond b (negsuc (n - suc m)) (pos (m - n))) ≤ m + n
sub_size true m n e = let h : m < n = ltb-true m n e in omega arith
sub_size false m n e = omega arith

pub size_neg : (z : ℤ) → nat_abs (neg_ℤ z) ≡ nat_abs z
size_neg (pos zero) = refl
size_neg (pos (suc n)) = refl
size_neg (negsuc n) = refl

pub size_add : (x y : ℤ) → nat_abs (x +ℤ y) ≤ nat_abs x + nat_abs y
size_add (pos a) (pos b) = omega arith
size_add (pos a) (negsuc b) = sub_size (ltb a (suc b)) a (suc b) refl
size_add (negsuc a) (pos b) = let h = sub_size (ltb b (suc a)) b (suc a) refl in omega arith
size_add (negsuc a) (negsuc b) = omega arith

pub size_sub : (x y : ℤ) → nat_abs (x -ℤ y) ≤ nat_abs x + nat_abs y
size_sub x y = rw size_neg at (size_add x (neg_ℤ y))

pub size_mul : (k : ℕ) (z : ℤ) → nat_abs (pos k *ℤ z) ≡ k * nat_abs z
size_mul k (pos n) = refl
size_mul k (negsuc n) = size_neg (pos (k * suc n))

-- ---- the range of a signed type
mag_size : (z : ℤ) → mag z ≤ nat_abs z
mag_size (pos n) = le_refl n
mag_size (negsuc n) = omega arith

size_mag : (z : ℤ) → nat_abs z ≤ mag z + 1
size_mag (pos n) = omega arith
size_mag (negsuc n) = omega arith

pub size_fits : (w : Width) (z : ℤ) → nat_abs z < 2 ^ hbits w → SFits w z
size_fits w z h = record { sfits = omega (arith, mag_size z) }

pub fits_size : {w : Width} {z : ℤ} → SFits w z → nat_abs z ≤ 2 ^ hbits w
fits_size {w} {z} f = omega (arith, f.sfits, size_mag z)

-- an i32 is an i64
pub wider : {z : ℤ} → SFits w32 z → SFits w64 z
wider f = sfits_widen tt f

-- a signed result is held as bits: what the machine reads back is the result, which is z
pub read_back : (w : Width) {r z : ℤ} → mag r < 2 ^ hbits w → r ≡ z → to_z w (of_z w r) ≡ z
read_back w {r} h e = to_z-of_z (record { sfits = h }) ∙ e

-- ---- 0 - z, and the sign of z
pub size_minus : (z : ℤ) → nat_abs (pos 0 -ℤ z) ≡ nat_abs z
size_minus z = ap nat_abs (+ℤ_idl (neg_ℤ z)) ∙ size_neg z

pub plus_non_neg : (z : ℤ) → lt_z z (pos 0) ≡ false → T (non_neg z)
plus_non_neg (pos n) e = tt
plus_non_neg (negsuc n) e = let z : ◌≡◌ {A = ℕ} 0 1 = cc in absurd (omega arith)
