-- Laws of the blocks of two gates: what a block that is clear, and one that is not, say of the settings of the two gates. Assumes nothing.
use Rattle.std.specs.Prelude.{◌≡◌, refl, true, false, List, ℕ, ◌+◌, ◌*◌, ◌^◌, ◌<◌, ℤ, pos, get_or}
use Rattle.std.proofs.Common.{sym}
use Rattle.std.proofs.Math.Path.{subst}
use Rattle.std.proofs.Math.Dec.{T}
use Rattle.basics.specs.Lists.{below}
use Rattle.basics.specs.TestLaws.{T_is, refuted, fails}
use Rattle.basics.specs.ListLaws.{below_at, at_below}
use Rattle.gate_sums.specs.Tables.{Sums}
use Rattle.fold_theory.specs.Aligned.{clears_on}
use Rattle.fold_theory.specs.declared.Thresholds.{Thresholds}
use Rattle.pair_theory.specs.declared.Alignment.{Alignment}
use Rattle.pair_theory.specs.Alignments.{aligned_in, Searchable}
use Rattle.pair_clearing.specs.Clearing.{reduced}
use Rattle.pair_clearing.specs.HalfLaws.{SettingHalves}
use Rattle.pair_clearing.specs.ClearLaws.{tested_low}
use Rattle.pair_blocks.specs.Blocks.{clears_low, block_clear}

module _ {a : Alignment} {tu tv : List ℤ} (f : Searchable a) (u : Sums a.us 256 tu) (v : Sums a.vs 256 tv) (k l lows high : ℕ)
    (halves : (j : ℕ) → j < lows → SettingHalves a.count lows high j) where
  -- what is left for the low half
  abbrev left : Thresholds
  left = reduced a.thresholds (get_or tu (256 + high) (pos 0)) (get_or tv (256 + high) (pos 0))

  module _ {t : Thresholds} (e : t ≡ left) where
    low_is : (j : ℕ) → j < lows → clears_low t k l tu tv j ≡ clears_on (aligned_in a) k l (high * lows + j)
    low_is j h = rw e (tested_low f u v k l lows high j (halves j h) refl)

    pub block_on : block_clear t k l lows tu tv ≡ true → (j : ℕ) → j < lows → T (clears_on (aligned_in a) k l (high * lows + j))
    unfolding block_clear
    block_on c j h = subst T (low_is j h) (below_at lows _ (T_is _ c) j h)

    -- a block that is not clear has a setting that is not
    pub block_short : block_clear t k l lows tu tv ≡ false → below (2 ^ a.count) (clears_on (aligned_in a) k l) ≡ false
    unfolding block_clear
    block_short c = refuted (below (2 ^ a.count) (clears_on (aligned_in a) k l)) λ all. fails _ c (at_below lows (clears_low t k l tu tv) λ j h.
        subst T (sym (low_is j h)) (below_at (2 ^ a.count) (clears_on (aligned_in a) k l) all (high * lows + j) (halves j h).inside))
