-- The test is the sign, and the size is written after it.
use mathlib.Core.Path.{◌≡◌, sym, ap, ◌∙◌}
use mathlib.Core.List.{◌∷◌}
use Prim.Native.Nat.{ℕ}
use native.Mathlib.Omega.{arith}
use lib.IntN.{nat_abs}
use lib.ListN.{length}
use mir.Facts.{to_z-of_z}
use borrow.Author.Rules.{rules}
use Rattle.texts.specs.Texts.{decimal}
use Rattle.question_theory.specs.Text.{right_side}
use Rattle.question_writing.specs.TextPartLaws.{right_below, right_above}
use Rattle.texts.proofs.PutLaws.{put_text}
use Rattle.basics.specs.SignLaws.{below_sign, above_sign}
use Rattle.question_writing.proofs.unchecked.put_right.Statement.{statement}
use Rattle.question_writing.proofs.unchecked.put_right.Tie as tie

-- the size of the number
size_is : (c : tie.After-magnitude-size) → c.magnitude-size.result ≡ nat_abs c.args.z
size_is c = c.magnitude-size.ensures ∙ ap nat_abs (to_z-of_z c.ranges.z)

-- the text below 0, and from 0 on
below : (c : tie.Then-z-lt0) → 45 ∷ decimal c.magnitude-size.result ≡ right_side c.args.z
below c =
    ap (λ (n : ℕ). 45 ∷ decimal n) (size_is c.before)
    ∙ sym (right_below c.args.z (below_sign c.args.z (rw (to_z-of_z c.ranges.z) at c.if-z-lt0.true)))

above : (c : tie.Else-z-lt0) → decimal c.magnitude-size.result ≡ right_side c.args.z
above c =
    ap decimal (size_is c.before) ∙ sym (right_above c.args.z (above_sign c.args.z (rw (to_z-of_z c.ranges.z) at c.if-z-lt0.false)))

put_number_requires : tie.Need-put_number-requires
put_number_requires c κs = omega (arith, ap length (below c.before.before.before), c.requires)

returns : tie.Need-returns-then-z-lt0
returns c = put_text c.put_number.ensures (below c.before.before.before.before.before.before)

put_decimal_requires : tie.Need-put_decimal-requires
put_decimal_requires c κs = omega (arith, ap length (above c.before), c.requires)

returns_2 : tie.Need-returns
returns_2 c = put_text c.put_decimal.ensures (above c.before.before.before.before)

pub put_right_spec : {M : Type 1} → statement M
put_right_spec =
    tie.close
    (tie.spec
    (λ c κs. search rules)
    (λ c. search rules)
    put_number_requires
    (λ c. search rules)
    returns
    put_decimal_requires
    (λ c. search rules)
    returns_2)
