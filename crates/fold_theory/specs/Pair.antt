-- The pair search: the order of the pairs, which of them qualify, and the call. Document 01, "Pair". Nothing is proved here.
use Rattle.std.specs.Prelude.{Bool, cond, List, [], ◌∷◌, ◌++◌, map, ℕ, ◌-◌}
use Rattle.basics.specs.Lists.{every, range}
use Rattle.basics.specs.Refusals.{Answer, accepted, refused, Test, ◌else◌, checks}
use Rattle.network.specs.Threshold.{Net}
use Rattle.network.specs.Limits.{scale_ok}
use Rattle.fold_theory.specs.Merge.{Edge, edge, merged, agrees, merge_keeps, on_dial, narrow, feed_tests}

-- two multipliers
pub record Pair : Type 0 where
  pub k : ℕ
  pub l : ℕ

-- the pairs with sum s, by k
unfoldable pub pairs_of : ℕ → List Pair
pairs_of s = map (λ k. record { k = k; l = s - k }) (range 1 (s - 1))

unfoldable pub gather : List ℕ → List Pair
gather [] = []
gather (s ∷ ss) = pairs_of s ++ gather ss

-- "the least k + l, then the least k"
unfoldable pub pairs : List Pair
pairs = gather (range 2 63)

-- "that qualify: their merge is within the limits and agrees"; "a pair that breaks them [the margins] doesn't qualify"
unfoldable pub qualifies : Edge → Pair → Bool
qualifies e p =
    every (on_dial p.k ∷ on_dial p.l ∷ scale_ok (merged e p.k p.l) ∷ merge_keeps e p.k p.l ∷ agrees e p.k p.l ∷ [])

-- the first member of which p holds, or the refusal c
unfoldable pub first : {A : Type 0} → (A → Bool) → List A → ℕ → Answer A
first p [] c = refused c
first p (x ∷ xs) c = cond (p x) (accepted x) (first p xs c)

-- 7 of two gates
unfoldable pub pair_tests : Edge → List Test
pair_tests e = (narrow e else 7) ∷ []

-- 7 and 16 of two gates
unfoldable pub pair_of : Edge → Answer Pair
pair_of e = checks (pair_tests e) (first (qualifies e) pairs 16)

-- order 20, 11, 12, 7, 16
unfoldable pub pair : Net → ℕ → ℕ → Answer Pair
pair N u v = checks (feed_tests N u v) (pair_of (edge N u v))
