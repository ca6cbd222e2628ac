-- 0 less the weight is minus the weight.
use mathlib.Core.Path.{sym, ap, ◌∙◌}
use mathlib.Core.Bool.{Bool, cond}
use native.Mathlib.Omega.{arith}
use lib.IntN.{ℤ, pos, neg_ℤ, ◌-ℤ◌, +ℤ_idl}
use mir.Syntax.{w32}
use mir.Facts.{to_z-of_z}
use mir.Val.{SFits, to_z, of_z}
use Rattle.basics.specs.SizeLaws.{size_fits, size_minus}
use Rattle.question_terms.proofs.unchecked.signed.Statement.{statement}
use Rattle.question_terms.proofs.unchecked.signed.Tie as tie

-- the difference fits
minus_fits : (c : tie.Start) → SFits w32 (pos 0 -ℤ c.args.weight)
minus_fits c = size_fits w32 (pos 0 -ℤ c.args.weight) (omega (arith, size_minus c.args.weight, c.requires))

sub_result : tie.Need-overflow_sub-result
sub_result c = rw (to_z-of_z c.ranges.weight) (minus_fits c.before)

returns : tie.Need-returns-then-negative
returns c =
    let w = c.args.weight in
    ap (λ (z : ℤ). to_z w32 (of_z w32 (pos 0 -ℤ z))) (to_z-of_z c.ranges.weight)
    ∙ to_z-of_z (minus_fits c.before)
    ∙ +ℤ_idl (neg_ℤ w)
    ∙ sym (ap (λ (b : Bool). cond b (neg_ℤ w) w) c.if-negative.true)

returns_2 : tie.Need-returns-else-negative
returns_2 c =
    let w = c.args.weight in
    to_z-of_z c.ranges.weight ∙ sym (ap (λ (b : Bool). cond b (neg_ℤ w) w) c.if-negative.false)

pub signed_spec : {M : Type 1} → statement M
signed_spec = tie.close (tie.spec sub_result returns returns_2)
