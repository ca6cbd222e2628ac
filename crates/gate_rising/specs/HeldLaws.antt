-- Sums as the machine holds them: what it reads back is the sum. Assumes nothing.
use Rattle.std.specs.Prelude.{◌≡◌, ◌≤◌, ℤ, nat_abs}
use Rattle.std.proofs.Common.{arith, to_z, of_z, to_z-of_z}
use Rattle.std.specs.Int.{w32}
use Rattle.basics.specs.SizeLaws.{size_fits}

-- no sum of weights is above sixteen million in size
pub held : (z : ℤ) → nat_abs z ≤ 16000000 → to_z w32 (of_z w32 z) ≡ z
held z h = to_z-of_z (size_fits w32 z (omega arith))
