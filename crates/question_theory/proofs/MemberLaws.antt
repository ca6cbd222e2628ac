-- More laws of lists: what holds of each member of joined lists, of a list of values and of a range, and which member stands where.
-- Assumes nothing.
use Rattle.std.specs.Prelude.{◌≡◌, List, [], ◌∷◌, ◌++◌, map, ℕ, zero, suc, ◌+◌, ◌<◌, length, get_or}
use Rattle.std.proofs.Common.{arith, get_or-append-add}
use Rattle.basics.specs.Lists.{range, Each}
pub use Rattle.basics.specs.ListLaws.{each_append, append_left, append_right, each_both}

module _ {A : Type 0} where
  -- member i of the second list stands behind the first list's members
  pub get_or_behind : (xs ys : List A) (d : A) (n i : ℕ) → n ≡ length xs → get_or (xs ++ ys) (n + i) d ≡ get_or ys i d
  get_or_behind xs ys d n i e = rw e (get_or-append-add xs ys i d)

  -- a fact of the member at each number
  pub get_or_each : (P : A → Type 0) (xs : List A) (d : A) → ((i : ℕ) → i < length xs → P (get_or xs i d)) → Each P xs
  get_or_each P [] d h = tt
  get_or_each P (x ∷ xs) d h = (h 0 (omega arith), get_or_each P xs d λ i k. h (suc i) (omega arith))

-- ---- a list of values
module _ {A B : Type 0} where
  pub each_map : (P : B → Type 0) (f : A → B) (xs : List A) → Each (λ x. P (f x)) xs → Each P (map f xs)
  each_map P f [] h = tt
  each_map P f (x ∷ xs) h = (h.0, each_map P f xs h.1)

  pub map_each : (P : B → Type 0) (f : A → B) (xs : List A) → Each P (map f xs) → Each (λ x. P (f x)) xs
  map_each P f [] h = tt
  map_each P f (x ∷ xs) h = (h.0, map_each P f xs h.1)

-- ---- a range
pub each_range : (P : ℕ → Type 0) (a n : ℕ) → ((i : ℕ) → i < a + n → P i) → Each P (range a n)
unfolding range
each_range P a zero h = tt
each_range P a (suc n) h = (h a (omega arith), each_range P (suc a) n λ i k. h i (omega arith))
