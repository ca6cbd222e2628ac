-- The sign of a number from a test in code. Assumes nothing.
use Rattle.std.specs.Prelude.{◌≡◌, refl, true, false, ℤ, pos, negsuc}
use Rattle.std.proofs.Common.{arith, ltb-true}
use Rattle.std.proofs.Math.Dec.{leb-zero}
use Rattle.std.specs.Int.Signed.{lt_z, le_z, non_neg}
use Rattle.basics.specs.SizeLaws.{plus_non_neg}
use Rattle.basics.specs.TestLaws.{is_true}

-- by the test `z < 0`
pub below_sign : (z : ℤ) → lt_z z (pos 0) ≡ true → non_neg z ≡ false
below_sign (pos n) e = let h = ltb-true n 0 e in absurd (omega arith)
below_sign (negsuc n) e = refl

pub above_sign : (z : ℤ) → lt_z z (pos 0) ≡ false → non_neg z ≡ true
above_sign z e = is_true (non_neg z) (plus_non_neg z e)

-- by the test `0 <= z`
pub from_sign : (z : ℤ) → le_z (pos 0) z ≡ non_neg z
from_sign (pos n) = leb-zero n
from_sign (negsuc n) = refl
