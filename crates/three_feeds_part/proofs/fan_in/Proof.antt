-- By what `is_zero` says. Assumes nothing.
use mathlib.Core.Path.{◌≡◌, refl, sym, ap, ◌∙◌}
use native.Mathlib.Omega.{arith}
use mir.Facts.{to_z-of_z}
use borrow.Author.Rules.{rules}
use Rattle.network.specs.Limits.{is_zero}
use Rattle.three_feeds_part.proofs.fan_in.Statement.{statement}
use Rattle.three_feeds_part.proofs.fan_in.Tie as tie

zero_is : (c : tie.After-is_zero) → is_zero c.args.weight ≡ c.is_zero.result
zero_is c = sym (c.is_zero.ensures ∙ ap is_zero (to_z-of_z c.ranges.weight))

returns : tie.Need-returns-then-is_zero
returns c = (rw (zero_is c.before ∙ c.if-is_zero.true) refl, omega arith)

returns_2 : tie.Need-returns-else-is_zero
returns_2 c = (rw (zero_is c.before ∙ c.if-is_zero.false) refl, omega arith)

pub fan_in_spec : {M : Type 1} → statement M
fan_in_spec = tie.close (tie.spec (λ c κs. search rules) returns returns_2)
