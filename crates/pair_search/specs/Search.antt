-- Internal: what the pair search's answer means, and which candidates a setting rules out. Nothing is proved here.
use Rattle.std.specs.Prelude.{◌≡◌, Bool, false, not, ◌&&◌, ◌||◌, List, ◌⊎◌, ℕ, ℤ}
use Rattle.std.specs.Int.Signed.{le_z}
use Rattle.basics.specs.Refusals.{Answer, accepted, refused}
use Rattle.gate_sums.specs.Tables.{sum_from}
use Rattle.fold_theory.specs.Pair.{Pair}
use Rattle.fold_theory.specs.Aligned.{composed_bit, clears}
use Rattle.fold_theory.specs.declared.Thresholds.{Thresholds}
use Rattle.pair_bounds.specs.declared.Remembered.{Remembered}
use Rattle.pair_search.specs.declared.Found.{Found}
use Rattle.pair_search.specs.declared.Found.TheVariants.{At, Nothing}

-- the pair that was found, or refusal 16, "no pair"
unfoldable pub found_as : Found → Answer Pair
found_as (At k l) = accepted (record { k = k; l = l })
found_as Nothing = refused 16

-- a setting on which the composed pair is 0 though v's sum reaches what it must where the voter is 1
unfoldable pub bounds_below : Thresholds → ℤ → ℤ → Bool
bounds_below t su sv = le_z t.on sv && not (composed_bit t su sv)

-- a setting on which the composed pair and the voter differ
unfoldable pub bounds_above : Thresholds → ℤ → ℤ → Bool
bounds_above t su sv = le_z t.own su && not (composed_bit t su sv) || not (le_z t.own su) && (composed_bit t su sv && le_z t.on sv)

-- the merged gate disagrees on one of two settings, by the tables of sums
abbrev pub RuledOut : Thresholds → List ℤ → List ℤ → Remembered → ℕ → ℕ → Type 0
RuledOut t tu tv known k l =
    (clears t k l (sum_from tu known.last) (sum_from tv known.last) ≡ false)
    ⊎ (clears t k l (sum_from tu known.earlier) (sum_from tv known.earlier) ≡ false)
