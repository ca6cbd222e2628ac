-- The sum is compared with the one bound or the other. Assumes nothing.
use mathlib.Core.Path.{◌≡◌, refl}
use mathlib.Core.Bool.{Bool, true, false, not, cond, ◌&&◌, ◌||◌}
use mir.Facts.{to_z-of_z}
use borrow.Author.Rules.{rules}
use Rattle.fold_theory.specs.Aligned.{composed_bit}
use Rattle.pair_clearing.specs.Clearing.{clears_between}
use Rattle.pair_clearing.proofs.unchecked.clears_between.Statement.{statement}
use Rattle.pair_clearing.proofs.unchecked.clears_between.Tie as tie

-- a choice by two tests
chosen : (c x y : Bool) → (c && x) || (not c && y) ≡ cond c x y
chosen true true y = refl
chosen true false y = refl
chosen false x y = refl

-- the composed pair's bit
one_is : (c : tie.After-composed_bit-one) → let a = c.args in c.composed_bit-one.result ≡ composed_bit a.thresholds a.su a.sv
one_is c = simp (to_z-of_z c.ranges.su, to_z-of_z c.ranges.sv) at c.composed_bit-one.ensures

returns : tie.Need-returns
unfolding clears_between
returns c =
    simp (one_is c, to_z-of_z c.ranges.upper, to_z-of_z c.ranges.lower, to_z-of_z c.ranges.sum)
    (chosen (composed_bit c.args.thresholds c.args.su c.args.sv) _ _)

pub clears_between_spec : {M : Type 1} → statement M
clears_between_spec = tie.close (tie.spec (λ c κs. search rules) returns)
