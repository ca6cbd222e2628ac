-- The two sums are compared with what they must reach. Assumes nothing.
use mathlib.Core.Path.{◌≡◌}
use mir.Syntax.{w32}
use mir.Val.{to_z, of_z}
use mir.Facts.{to_z-of_z}
use borrow.Author.Rules.{rules}
use Rattle.fold_theory.specs.Aligned.{composed_bit}
use Rattle.pair_search.specs.Search.{bounds_above}
use Rattle.pair_search.proofs.unchecked.bounds_above.Statement.{statement}
use Rattle.pair_search.proofs.unchecked.bounds_above.Tie as tie

own_is : (c : tie.Start) → to_z w32 (of_z w32 c.args.thresholds.own) ≡ c.args.thresholds.own
own_is c = search rules

on_is : (c : tie.Start) → to_z w32 (of_z w32 c.args.thresholds.on) ≡ c.args.thresholds.on
on_is c = search rules

-- the composed pair's bit
one_is : (c : tie.After-composed_bit-one) → let a = c.args in c.composed_bit-one.result ≡ composed_bit a.thresholds a.su a.sv
one_is c = simp (to_z-of_z c.ranges.su, to_z-of_z c.ranges.sv) at c.composed_bit-one.ensures

returns : tie.Need-returns
unfolding bounds_above
returns c =
    let d = c.before.before.before.before in
    let s = c.before.before.before.before.before in
    simp (one_is d, own_is s, on_is s, to_z-of_z s.ranges.su, to_z-of_z s.ranges.sv)

pub bounds_above_spec : {M : Type 1} → statement M
bounds_above_spec = tie.close (tie.spec (λ c κs. search rules) returns)
