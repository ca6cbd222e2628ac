-- Internal: what the functions of the margin test say of each other: numbers on the scale, and two lists of sums in tables. Nothing is proved here.
use Rattle.std.specs.Prelude.{Bool, List, ℕ, ◌≤◌, ◌<◌, ℤ, pos, nat_abs, ◌+ℤ◌, length, get_or}
use Rattle.basics.specs.Lists.{below}
use Rattle.basics.specs.SizeLaws.{SizesWithin}
use Rattle.gate_rising.specs.Tables.{AtMost, member, Rising, SumsWithin}
use Rattle.gate_margins.specs.Sums.{apart}

-- what a caller has tested: at most 16 weights, each on the scale, and the threshold too
pub record OnScale (weights : List ℤ) (threshold : ℤ) : Type 0 where
  pub few : length weights ≤ 16
  pub weights_small : SizesWithin 1000000 weights
  pub threshold_small : nat_abs threshold ≤ 1000000

-- a list that can be added to another
pub record Addable (n : ℕ) (sums : List ℤ) : Type 0 where
  pub few : n ≤ 256
  pub sums_small : SumsWithin 8000000 n sums
  pub rising : Rising n sums

-- no sum of a member of each list lies between floor and ceiling
unfoldable pub apart_all : List ℤ → List ℤ → ℕ → ℕ → ℤ → ℤ → Bool
apart_all lows highs n m floor ceiling = below n (λ i. below m (λ j. apart floor ceiling (member lows n i +ℤ member highs m j)))

-- the same two by themselves, outside their tables
pub record AddableList (sums : List ℤ) : Type 0 where
  pub few : length sums ≤ 256
  pub sums_small : (i : ℕ) → i < length sums → nat_abs (get_or sums i (pos 0)) ≤ 8000000
  pub rising : (i j : ℕ) → i ≤ j → j < length sums → AtMost (get_or sums i (pos 0)) (get_or sums j (pos 0))

unfoldable pub lists_apart : List ℤ → List ℤ → ℤ → ℤ → Bool
lists_apart lows highs floor ceiling =
    below (length lows) (λ i. below (length highs) (λ j. apart floor ceiling (get_or lows i (pos 0) +ℤ get_or highs j (pos 0))))
