-- The order of the pairs as a loop over k + l and a loop over k meet them: what is left from a sum on, and from a sum and a k on.
-- Assumes nothing.
use mathlib.Core.Path.{◌≡◌, refl, ◌∙◌}
use mathlib.Core.Bool.{Bool, true, false}
use mathlib.Core.List.{List, [], ◌∷◌, ◌++◌, map}
use Prim.Native.Nat.{ℕ, zero, suc, ◌+◌, ◌-◌, ◌≤◌, ◌<◌}
use native.Mathlib.Decide.{dec_lt}
use native.Mathlib.Numerals.{add-one}
use native.Mathlib.Omega.{arith}
use Rattle.basics.specs.Lists.{range}
use Rattle.basics.specs.Refusals.{accepted, refused}
use Rattle.fold_theory.specs.Pair.{Pair, pairs_of, gather, pairs, first}

-- the pair with sum s and this k
abbrev pub pair_at : ℕ → ℕ → Pair
pair_at s k = record { k = k; l = s - k }

-- the pairs of the sums from s on
unfoldable pub later : ℕ → List Pair
later s = gather (range s (65 - s))

-- the pairs with sum s from k on, and those of the sums after it
unfoldable pub left : ℕ → ℕ → List Pair
left s k = map (pair_at s) (range k (s - k)) ++ later (suc s)

range_step : (a n m : ℕ) → n ≡ suc m → range a n ≡ a ∷ range (suc a) m
unfolding range
range_step a n m e = rw e

pub later_start : later 2 ≡ pairs
unfolding later pairs
later_start = refl

later_end : (s : ℕ) → 65 ≤ s → later s ≡ []
unfolding later gather range
later_end s h = rw (let e : 65 - s ≡ 0 = omega arith in e)

pub left_start : (s : ℕ) → s ≤ 64 → left s 1 ≡ later s
unfolding left later gather pairs_of
left_start s h = rw (range_step s (65 - s) (65 - suc s) (omega arith))

left_step : (s k : ℕ) → k < s → left s k ≡ pair_at s k ∷ left s (k + 1)
unfolding left
left_step s k h = rw (add-one, range_step k (s - k) (s - suc k) (omega arith))

-- past the last k, the next sum
left_over : (s k : ℕ) → s ≤ k → left s k ≡ later (suc s)
unfolding left range
left_over s k h = rw (let e : s - k ≡ 0 = omega arith in e)

-- ---- the first pair of which q holds, among what is left
module _ (q : Pair → Bool) (c : ℕ) where
  pub first_none : (s : ℕ) → 65 ≤ s → first q (later s) c ≡ refused c
  unfolding first
  first_none s h = rw (later_end s h)

  pub first_hit : (s k : ℕ) → k < s → q (pair_at s k) ≡ true → first q (left s k) c ≡ accepted (pair_at s k)
  unfolding first
  first_hit s k h e = rw (left_step s k h, e)

  pub first_miss : (s k : ℕ) → k < s → q (pair_at s k) ≡ false → first q (left s (k + 1)) c ≡ first q (left s k) c
  unfolding first
  first_miss s k h e = rw (left_step s k h, e)

  first_past : (s k : ℕ) → s ≤ k → first q (left s (k + 1)) c ≡ first q (left s k) c
  first_past s k h = rw (left_over s k h, left_over s (k + 1) (omega arith))

  -- the k up to m are not taken
  first_rest : (n s k m : ℕ) → m - k ≡ n → k ≤ m → ((j : ℕ) → k ≤ j → j < m → j < s → q (pair_at s j) ≡ false) → first q (left s m) c ≡ first q (left s k) c
  first_rest zero s k m e h none = let same : m ≡ k = omega arith in rw same
  first_rest (suc n) s k m e h none =
      let more = first_rest n s (k + 1) m (omega arith) (omega arith) (λ j a b. none j (omega arith) b) in
      elim (dec_lt k s) as (λ d. first q (left s m) c ≡ first q (left s k) c) [
        | yes l ↦ more ∙ first_miss s k l (none k (omega arith) (omega arith) l)
        | no l ↦ more ∙ first_past s k (omega arith)
      ]

  pub first_from : (s k m : ℕ) → k ≤ m → ((j : ℕ) → k ≤ j → j < m → j < s → q (pair_at s j) ≡ false) → first q (left s m) c ≡ first q (left s k) c
  first_from s k m = first_rest (m - k) s k m refl

  -- no k from here on is taken
  pub first_over : (s k : ℕ) → s ≤ k → first q (later (s + 1)) c ≡ first q (left s k) c
  first_over s k h = rw (add-one, left_over s k h)

  first_skip : (n s k : ℕ) → s - k ≡ n → ((j : ℕ) → k ≤ j → j < s → q (pair_at s j) ≡ false) → first q (later (s + 1)) c ≡ first q (left s k) c
  first_skip zero s k e none = first_over s k (omega arith)
  first_skip (suc n) s k e none =
      first_skip n s (k + 1) (omega arith) (λ j h l. none j (omega arith) l) ∙ first_miss s k (omega arith) (none k (omega arith) (omega arith))

  pub first_next : (s k : ℕ) → ((j : ℕ) → k ≤ j → j < s → q (pair_at s j) ≡ false) → first q (later (s + 1)) c ≡ first q (left s k) c
  first_next s k = first_skip (s - k) s k refl
