-- The bounds are the threshold with the margins. Assumes nothing.
use mathlib.Core.Path.{◌≡◌}
use lib.IntN.{pos, ◌+ℤ◌, ◌-ℤ◌}
use mir.Syntax.{w32}
use mir.Val.{to_z, of_z}
use mir.Facts.{to_z-of_z}
use borrow.Author.Rules.{rules}
use Rattle.basics.specs.SizeLaws.{read_back}
use Rattle.fold_theory.specs.Aligned.{mix, mixed_threshold, clears}
use Rattle.fold_theory.specs.declared.Thresholds.{Thresholds}
use Rattle.pair_clearing.specs.Clearing.{clears_between}
use Rattle.pair_clearing.proofs.unchecked.clears.Statement.{statement}
use Rattle.pair_clearing.proofs.unchecked.clears.Tie as tie

mixed_requires : tie.Need-mixed-sum-requires
mixed_requires c κs = simp (to_z-of_z c.ranges.su, to_z-of_z c.ranges.sv) c.requires.1

upper_threshold_requires : tie.Need-upper_threshold-upper-requires
upper_threshold_requires c κs = (c.requires.0, c.requires.1.dial)

lower_threshold_requires : tie.Need-lower_threshold-lower-requires
lower_threshold_requires c κs = (c.requires.0, c.requires.1.dial)

-- the numbers as the machine reads them
module _ (c : tie.After-clears_between) where
  abbrev start : tie.Start
  start = c.before.before.before.before

  abbrev t : Thresholds
  t = start.args.thresholds

  sum_is : to_z w32 (of_z w32 c.mixed-sum.result) ≡ mix start.args.k start.args.l start.args.su start.args.sv
  sum_is =
      let m = c.mixed-sum in
      read_back w32 m.type_inv (simp (to_z-of_z start.ranges.su, to_z-of_z start.ranges.sv) at m.ensures)

  upper_is : to_z w32 (of_z w32 c.upper_threshold-upper.result) ≡ mixed_threshold t start.args.k start.args.l +ℤ pos t.board.on
  upper_is = read_back w32 c.upper_threshold-upper.type_inv c.upper_threshold-upper.ensures

  lower_is : to_z w32 (of_z w32 c.lower_threshold-lower.result) ≡ mixed_threshold t start.args.k start.args.l -ℤ pos t.board.off
  lower_is = read_back w32 c.lower_threshold-lower.type_inv c.lower_threshold-lower.ensures

returns : tie.Need-returns
unfolding clears clears_between
returns c =
    let s = start c in
    simp (sum_is c, upper_is c, lower_is c, to_z-of_z s.ranges.su, to_z-of_z s.ranges.sv) at c.clears_between.ensures

pub clears_spec : {M : Type 1} → statement M
clears_spec = tie.close (tie.spec mixed_requires upper_threshold_requires lower_threshold_requires (λ c κs. search rules) returns)
