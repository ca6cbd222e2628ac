-- The sum is compared with what it must reach. Assumes nothing.
use mathlib.Core.Path.{◌≡◌}
use mir.Syntax.{w32}
use mir.Val.{to_z, of_z}
use mir.Facts.{to_z-of_z}
use borrow.Author.Rules.{rules}
use Rattle.fold_theory.specs.Aligned.{composed_bit}
use Rattle.pair_search.specs.Search.{bounds_below}
use Rattle.pair_search.proofs.unchecked.bounds_below.Statement.{statement}
use Rattle.pair_search.proofs.unchecked.bounds_below.Tie as tie

on_is : (c : tie.Start) → to_z w32 (of_z w32 c.args.thresholds.on) ≡ c.args.thresholds.on
on_is c = search rules

-- the composed pair's bit
one_is : (c : tie.After-composed_bit) → let a = c.args in c.composed_bit.result ≡ composed_bit a.thresholds a.su a.sv
one_is c = simp (to_z-of_z c.ranges.su, to_z-of_z c.ranges.sv) at c.composed_bit.ensures

returns : tie.Need-returns
unfolding bounds_below
returns c = let s = c.before.before.before in simp (one_is c, on_is s, to_z-of_z s.ranges.sv)

pub bounds_below_spec : {M : Type 1} → statement M
bounds_below_spec = tie.close (tie.spec (λ c κs. search rules) returns)
