-- The settings passed are clear, or one of them is not. Assumes nothing.
use mathlib.Core.Path.{◌≡◌, refl, sym, ap₂, ◌∙◌}
use mathlib.Core.Bool.{Bool, ◌&&◌}
use mathlib.Core.List.{List}
use Prim.Native.Nat.{ℕ, ◌-◌, ◌≤◌}
use native.Mathlib.Omega.{arith}
use lib.IntN.{ℤ, pos}
use lib.ListN.{get_or}
use mir.Syntax.{w32}
use mir.Val.{to_z, of_z}
use mir.Facts.{to_z-of_z}
use borrow.Author.Rules.{rules}
use Rattle.basics.specs.Lists.{below}
use Rattle.basics.specs.SizeLaws.{read_back}
use Rattle.basics.specs.ListLaws.{below_none, below_more}
use Rattle.fold_theory.specs.declared.Thresholds.{Thresholds}
use Rattle.pair_clearing.specs.Clearing.{clears_between}
use Rattle.pair_blocks.specs.Blocks.{block_between}
use Rattle.pair_blocks.proofs.unchecked.clears_at_once.Statement.{statement}
use Rattle.pair_blocks.proofs.unchecked.clears_at_once.Tie as tie

-- the test of a setting
abbrev test : List ℤ → List ℤ → List ℤ → Thresholds → ℤ → ℤ → ℕ → Bool
test us vs mixes t upper lower j = clears_between t upper lower (get_or us j (pos 0)) (get_or vs j (pos 0)) (get_or mixes j (pos 0))

abbrev invariant-loop : tie.invariant-loop-setting
invariant-loop sums-u sums-v mixes thresholds upper lower lows clear₀ setting₀ clear setting =
    (setting ≤ lows) × (clear ≡ below setting (test sums-u sums-v mixes thresholds (to_z w32 upper) (to_z w32 lower)))

abbrev decreases-loop : tie.decreases-loop-setting
decreases-loop sums-u sums-v mixes thresholds upper lower lows clear₀ setting₀ clear setting = lows - setting

loop_holds : tie.Need-loop-setting-init invariant-loop decreases-loop
loop_holds c = (omega arith, sym (below_none _))

loop_less : tie.Need-loop-setting-smaller invariant-loop decreases-loop
loop_less c = omega arith

-- the numbers of a setting, as the machine reads them back
module _ (c : tie.After-clears_between-here invariant-loop decreases-loop) where
  abbrev at_v : tie.After-clears_between-arg-in-loop-setting-1 invariant-loop decreases-loop
  at_v = c.before.before

  abbrev turn : tie.At-loop-setting invariant-loop decreases-loop
  turn = at_v.before.before.before

  abbrev at : List ℤ → ℤ
  at sums = get_or sums turn.loop-setting.setting (pos 0)

  u_is : to_z w32 (of_z w32 (at turn.args.sums_u.now)) ≡ at turn.args.sums_u.now
  u_is = read_back w32 at_v.clears_between-arg-1.given refl

  v_is : to_z w32 (of_z w32 (at turn.args.sums_v.now)) ≡ at turn.args.sums_v.now
  v_is = read_back w32 at_v.clears_between-arg-in-loop-setting-1.given refl

  sum_is : to_z w32 (of_z w32 (at turn.args.mixes.now)) ≡ at turn.args.mixes.now
  sum_is = read_back w32 c.clears_between-arg-in-loop-setting-2-1.given refl

loop_again : tie.Need-loop-setting-preserved invariant-loop decreases-loop
loop_again c =
    let l = (turn c).loop-setting in
    (omega arith, ap₂ ◌&&◌ l.invariant.1 (simp (u_is c, v_is c, sum_is c) at c.clears_between-here.ensures) ∙ sym (below_more _ l.setting))

returns : tie.Need-returns invariant-loop decreases-loop
unfolding block_between
returns c =
    let e : c.loop-setting.setting ≡ c.args.lows = omega arith in
    simp (to_z-of_z c.ranges.upper, to_z-of_z c.ranges.lower, e) at c.loop-setting.invariant.1

pub clears_at_once_spec : {M : Type 1} → statement M
clears_at_once_spec =
    tie.close
    (tie.spec
    invariant-loop
    decreases-loop
    loop_holds
    (λ c. search rules)
    (λ c. search rules)
    (λ c. search rules)
    (λ c. search rules)
    (λ c. search rules)
    (λ c. search rules)
    (λ c κs. search rules)
    (λ c. search rules)
    loop_less
    loop_again
    returns)
