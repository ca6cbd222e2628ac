-- Internal: the settings of a block, those with one setting of the high half, all at once: what the ends of their sums settle, and how many
-- settings are clear. Nothing is proved here.
use Rattle.std.specs.Prelude.{Bool, false, not, ◌&&◌, List, ◌≡◌, ℕ, ◌≤◌, ◌<◌, T, ℤ, pos, get_or}
use Rattle.std.specs.Int.Signed.{le_z}
use Rattle.basics.specs.Lists.{below}
use Rattle.fold_theory.specs.Aligned.{clears}
use Rattle.fold_theory.specs.declared.Thresholds.{Thresholds}
use Rattle.pair_clearing.specs.Clearing.{clears_between}
use Rattle.pair_spans.specs.declared.Span.{Span}

-- a merged sum is between its bounds on every setting below n
unfoldable pub block_between : Thresholds → ℤ → ℤ → ℕ → List ℤ → List ℤ → List ℤ → Bool
block_between t upper lower n us vs mixes = below n (λ j. clears_between t upper lower (get_or us j (pos 0)) (get_or vs j (pos 0)) (get_or mixes j (pos 0)))

-- v's sums settle that the composed pair is 0 on the whole block, and every merged sum is at most `lower`
unfoldable pub settled_off : Thresholds → ℤ → Span → Span → Bool
settled_off t lower vs sums = not (le_z t.on vs.most) && not (le_z t.off vs.most) && le_z sums.most lower

-- v's sums settle that it is 1, and every merged sum is at least `upper`
unfoldable pub settled_on : Thresholds → ℤ → Span → Span → Bool
settled_on t upper vs sums = le_z t.on vs.least && le_z t.off vs.least && le_z upper sums.least

-- the settings of a block that clear
abbrev pub clears_low : Thresholds → ℕ → ℕ → List ℤ → List ℤ → ℕ → Bool
clears_low t k l us vs = λ j. clears t k l (get_or us j (pos 0)) (get_or vs j (pos 0))

-- every setting below n does
unfoldable pub block_clear : Thresholds → ℕ → ℕ → ℕ → List ℤ → List ℤ → Bool
block_clear t k l n us vs = below n (clears_low t k l us vs)

-- of n settings the first ones that are clear: all, or fewer where one is not
pub record ClearSettings (n : ℕ) (test : ℕ → Bool) (first : ℕ) : Type 0 where
  pub within : first ≤ n
  pub clear : (j : ℕ) → j < first → T (test j)
  pub short : first < n → below n test ≡ false
