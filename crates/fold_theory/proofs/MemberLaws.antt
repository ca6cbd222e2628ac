-- More laws of lists: what holds of each member, with its place, of joined lists and of ranges; and lists in rising order. Assumes
-- nothing.
use Rattle.std.specs.Prelude.{◌≡◌, List, [], ◌∷◌, ◌++◌, map, length, get_or}
use Rattle.std.proofs.Common.{subst, arith}
use Prim.Native.Nat.{ℕ, zero, suc, ◌+◌, ◌≤◌, ◌<◌}
use Rattle.basics.specs.Lists.{range, Each}
pub use Rattle.basics.specs.ListLaws.{each_append, append_left, append_right, each_range, range_each}

module _ {A : Type 0} where
  -- each member with its number, the first with number n
  abbrev pub EachFrom : (ℕ → A → Type 0) → ℕ → List A → Type 0
  EachFrom P n [] = Unit {0}
  EachFrom P n (x ∷ xs) = P n x × EachFrom P (suc n) xs

  pub from_at : (P : ℕ → A → Type 0) (n : ℕ) (xs : List A) (d : A) → EachFrom P n xs → (i : ℕ) → i < length xs → P (n + i) (get_or xs i d)
  from_at P n [] d h i k = absurd (omega arith)
  from_at P n (x ∷ xs) d h zero k = subst (λ (m : ℕ). P m x) (let e : n ≡ n + 0 = omega arith in e) h.0
  from_at P n (x ∷ xs) d h (suc i) k =
      let e : suc n + i ≡ n + suc i = omega arith in
      subst (λ (m : ℕ). P m (get_or xs i d)) e (from_at P (suc n) xs d h.1 i (omega arith))

  pub each_from : (P : ℕ → A → Type 0) (n : ℕ) (xs : List A) (d : A) → ((i : ℕ) → i < length xs → P (n + i) (get_or xs i d)) → EachFrom P n xs
  each_from P n [] d h = tt
  each_from P n (x ∷ xs) d h = (
    subst (λ m. P m x) (let e : n + 0 ≡ n = omega arith in e) (h 0 (omega arith)),
    each_from P (suc n) xs d λ i k. subst (λ m. P m (get_or xs i d)) (let e : n + suc i ≡ suc n + i = omega arith in e) (h (suc i) (omega arith)),
  )

  -- ---- rising order

  -- each member comes before those after it
  abbrev pub Ascending : (A → A → Type 0) → List A → Type 0
  Ascending R [] = Unit {0}
  Ascending R (x ∷ xs) = Each (R x) xs × Ascending R xs

  pub ascending_append : (R : A → A → Type 0) (xs ys : List A) → Ascending R xs → Ascending R ys → Each (λ x. Each (R x) ys) xs → Ascending R (xs ++ ys)
  ascending_append R [] ys h k b = k
  ascending_append R (x ∷ xs) ys h k b = (each_append (R x) xs ys h.0 b.0, ascending_append R xs ys h.1 k b.1)

  -- ---- the values of a function on a range
  pub ascending_range : (R : A → A → Type 0) (f : ℕ → A) (a n : ℕ) → ((i j : ℕ) → a ≤ i → i < j → j < a + n → R (f i) (f j)) → Ascending R (map f (range a n))
  unfolding range
  ascending_range R f a zero h = tt
  ascending_range R f a (suc n) h = (
    each_range (R (f a)) f (suc a) n λ i j k. h a i (omega arith) (omega arith) (omega arith),
    ascending_range R f (suc a) n λ i j p q r. h i j (omega arith) q (omega arith),
  )
