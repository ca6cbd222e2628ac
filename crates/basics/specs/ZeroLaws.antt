-- A number that is held as 0 is 0. Assumes nothing.
use Rattle.std.proofs.Common.{◌≡◌, refl, sym, ◌∙◌, suc, ◌-◌, eqb, arith, of_z, SFits}
use Rattle.std.specs.Prelude.{ℤ, pos, negsuc, nat_abs}
use Rattle.std.specs.Int.{w32}
use Rattle.basics.specs.TestLaws.{eqb_no}

pub zero_held : (z : ℤ) → SFits w32 z → eqb (of_z w32 z) 0 ≡ eqb (nat_abs z) 0
zero_held (pos n) f = refl
zero_held (negsuc n) f =
    let h = f.sfits in
    eqb_no (4294967296 - suc n) 0 (λ e. absurd (omega arith)) ∙ sym (eqb_no (suc n) 0 (λ e. absurd (omega arith)))
