-- Each feed goes behind those that stay (PartLaws). Assumes nothing.
use mathlib.Core.Path.{ap, ◌∙◌}
use mathlib.Core.Bool.{not}
use native.Mathlib.Omega.{arith}
use lib.IntN.{ℤ}
use mir.Facts.{to_z-of_z}
use borrow.Author.Rules.{rules}
use Rattle.network.specs.Threshold.{digit}
use Rattle.network.specs.Limits.{is_zero}
use Rattle.three_feeds_part.specs.PartLaws.{row_gate}
use Rattle.three_feeds_part.proofs.gate_on.Statement.{statement}
use Rattle.three_feeds_part.proofs.gate_on.Tie as tie

returns : tie.Need-returns
returns c =
    let a = c.args in
    let f = c.ranges in
    let one = c.fan_in-one.ensures in
    let two = c.fan_in.ensures in
    let three = c.fan_in-2.ensures in
    let x = one.0 ∙ ap (λ (z : ℤ). digit (not (is_zero z))) (to_z-of_z f.a) in
    let y = two.0 ∙ ap (λ (z : ℤ). digit (not (is_zero z))) (to_z-of_z f.b) in
    let z = three.0 ∙ ap (λ (z : ℤ). digit (not (is_zero z))) (to_z-of_z f.c) in (
      row_gate a.i a.j a.k a.a a.b a.c a.threshold
          (to_z-of_z f.a) (to_z-of_z f.b) (to_z-of_z f.c) (to_z-of_z f.threshold) x y z,
      omega (arith, one.1, two.1, three.1),
    )

pub gate_on_spec : {M : Type 1} → statement M
gate_on_spec =
    tie.close
    (tie.spec
    (λ c. search rules)
    (λ c. search rules)
    (λ c κs. search rules)
    (λ c. search rules)
    (λ c. search rules)
    (λ c. search rules)
    (λ c κs. search rules)
    (λ c. search rules)
    (λ c. search rules)
    (λ c. search rules)
    (λ c. search rules)
    (λ c κs. search rules)
    (λ c. search rules)
    (λ c. search rules)
    returns)
