-- `agreement::unchecked::composed_bit` meets its contract: v's sum reaches the one threshold or the other. Assumes nothing.
use mathlib.Core.Path.{◌≡◌}
use mathlib.Core.Bool.{true, false}
use lib.Signed.{le_z}
use mir.Syntax.{w32}
use mir.Val.{to_z, of_z}
use mir.Facts.{to_z-of_z}
use Rattle.fold_theory.specs.Aligned.{composed_bit}
use borrow.Author.Rules.{rules}
use Rattle.pair_clearing.proofs.unchecked.composed_bit.Statement.{statement}
use Rattle.pair_clearing.proofs.unchecked.composed_bit.Tie as tie

-- the thresholds, as the machine reads them back
module _ (c : tie.Start) where
  own_is : to_z w32 (of_z w32 c.args.thresholds.own) ≡ c.args.thresholds.own
  own_is = search rules

  on_is : to_z w32 (of_z w32 c.args.thresholds.on) ≡ c.args.thresholds.on
  on_is = search rules

  off_is : to_z w32 (of_z w32 c.args.thresholds.off) ≡ c.args.thresholds.off
  off_is = search rules

returns : tie.Need-returns-then-su-thresholds
unfolding composed_bit
returns c =
    let d = c.before.before.before.before.before in
    let own : le_z d.args.thresholds.own d.args.su ≡ true = simp (own_is d, to_z-of_z d.ranges.su) at c.if-su-thresholds.true in
    simp (to_z-of_z d.ranges.sv, on_is d, own)

returns_2 : tie.Need-returns-else-su-thresholds
unfolding composed_bit
returns_2 c =
    let d = c.before.before.before.before.before in
    let own : le_z d.args.thresholds.own d.args.su ≡ false = simp (own_is d, to_z-of_z d.ranges.su) at c.if-su-thresholds.false in
    simp (to_z-of_z d.ranges.sv, off_is d, own)

pub composed_bit_spec : {M : Type 1} → statement M
composed_bit_spec = tie.close (tie.spec returns returns_2)
