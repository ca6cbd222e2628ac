-- `agreement::unchecked::merged_threshold` meets its contract: it is the mix of two thresholds. Assumes nothing.
use mathlib.Core.Path.{◌≡◌}
use native.Mathlib.Omega.{arith}
use mir.Syntax.{w32}
use mir.Val.{to_z, of_z}
use Rattle.basics.specs.SizeLaws.{read_back}
use Rattle.fold_theory.specs.Aligned.{mixed_threshold}
use borrow.Author.Rules.{rules}
use Rattle.pair_clearing.proofs.unchecked.merged_threshold.Statement.{statement}
use Rattle.pair_clearing.proofs.unchecked.merged_threshold.Tie as tie

-- the two thresholds, as the machine reads them back
module _ (c : tie.Start) where
  own_is : to_z w32 (of_z w32 c.args.thresholds.own) ≡ c.args.thresholds.own
  own_is = search rules

  on_is : to_z w32 (of_z w32 c.args.thresholds.on) ≡ c.args.thresholds.on
  on_is = search rules

mixed_requires : tie.Need-mixed-requires
mixed_requires c κs =
    let s = c.before.before in
    let near = s.requires.0 in
    rw (own_is s, on_is s) (record { dial = s.requires.1; x_small = omega (arith, near.own_small); y_small = omega (arith, near.on_small) })

returns : tie.Need-returns
unfolding mixed_threshold
returns c = let s = c.before.before.before in read_back w32 c.mixed.type_inv (rw (own_is s, on_is s) at c.mixed.ensures)

pub merged_threshold_spec : {M : Type 1} → statement M
merged_threshold_spec = tie.close (tie.spec mixed_requires returns)
