-- Laws of tables and of the places of a list: a store, and one member more. Assumes nothing.
use Rattle.std.specs.Prelude.{◌≡◌, Bool, ℕ, zero, suc, ◌≤◌, ◌<◌, eqb, length, take, set, replicate}
use Rattle.std.proofs.Math.Path.{refl, sym}
use Rattle.std.proofs.Common.{ap, ◌∙◌, arith, length-set, length-take-le, ext_get_or, get_or-set_same, get_or-set_other, get_or-take, eqb-true}
use Rattle.std.proofs.Math.Bool.{true, false, cond}
use mathlib.Core.List.{List, [], ◌∷◌, ◌++◌, map}
use Rattle.std.proofs.Math.Dec.{eqb-zero-suc, eqb-suc-zero, eqb-suc-suc}
use Rattle.std.proofs.Math.ListN.{get_or}
use Rattle.std.proofs.lemmas.List.{length-map}
use Rattle.std.proofs.Math.Seq.{set_out}
use Rattle.std.proofs.lemmas.Bool.{eqb-false}
use Rattle.basics.specs.Lists.{keep, tab, places}
use Rattle.basics.specs.ListLaws.{length_tab, get_or_tab, tab_same, tab_replicate}

module _ {A : Type 0} where
  -- ---- a store into a table

  pub set_tab : (n : ℕ) (f : ℕ → A) (i : ℕ) (x : A) → set (tab n f) i x ≡ tab n (λ j. cond (eqb i j) x (f j))
  set_tab n f i x = ext_get_or x (set (tab n f) i x) (tab n (λ j. cond (eqb i j) x (f j)))
      (length-set (tab n f) i x ∙ length_tab n f ∙ sym (length_tab n (λ j. cond (eqb i j) x (f j))))
      λ j h.
      let low : j < n = omega (arith, h, length-set (tab n f) i x, length_tab n f) in
      at j low ∙ sym (get_or_tab x n (λ j. cond (eqb i j) x (f j)) j low)
    where
      at : (j : ℕ) → j < n → get_or (set (tab n f) i x) j x ≡ cond (eqb i j) x (f j)
      at j h = elim (eqb i j) as (λ b. eqb i j ≡ b → get_or (set (tab n f) i x) j x ≡ cond b x (f j)) [
        | true ↦ λ e. rw (eqb-true i j e) (get_or-set_same (tab n f) j x x (omega (arith, length_tab n f)))
        | false ↦ λ e. get_or-set_other (tab n f) i j x x (λ q. eqb-false i j e (sym q)) ∙ get_or_tab x n f j h
      ] refl

  -- ---- one member more at the end

  get_or_last : (xs : List A) (x d : A) (i : ℕ) → get_or (xs ++ (x ∷ [])) i d ≡ cond (eqb (length xs) i) x (get_or xs i d)
  get_or_last [] x d zero = refl
  get_or_last [] x d (suc i) = rw (eqb-zero-suc i)
  get_or_last (y ∷ ys) x d zero = rw (eqb-suc-zero (length ys))
  get_or_last (y ∷ ys) x d (suc i) = rw (eqb-suc-suc (length ys) i) (get_or_last ys x d i)

  pub keep_last : (p : A → Bool) (xs : List A) (x : A) → keep p (xs ++ (x ∷ [])) ≡ cond (p x) (keep p xs ++ (x ∷ [])) (keep p xs)
  unfolding keep
  keep_last p [] x = refl
  keep_last p (y ∷ ys) x = rw (keep_last p ys x) (swap (p y) (p x))
    where
      swap : (a b : Bool) → cond a (y ∷ cond b (keep p ys ++ (x ∷ [])) (keep p ys)) (cond b (keep p ys ++ (x ∷ [])) (keep p ys))
          ≡ cond b (cond a (y ∷ keep p ys) (keep p ys) ++ (x ∷ [])) (cond a (y ∷ keep p ys) (keep p ys))
      swap true true = refl
      swap true false = refl
      swap false true = refl
      swap false false = refl

  -- ---- the places of a list

  pub length_places : (n : ℕ) (d : A) (xs : List A) → length (places n d xs) ≡ n
  unfolding places
  length_places n d xs = length_tab n (λ i. get_or xs i d)

  pub places_none : (n : ℕ) (d : A) → replicate n d ≡ places n d []
  unfolding places
  places_none n d = sym (tab_replicate n d)

  -- a store behind the last member; behind the last place it changes nothing
  pub places_last : (n : ℕ) (d : A) (xs : List A) (x : A) → set (places n d xs) (length xs) x ≡ places n d (xs ++ (x ∷ []))
  unfolding places
  places_last n d xs x = set_tab n (λ i. get_or xs i d) (length xs) x ∙ tab_same n _ _ (λ i h. sym (get_or_last xs x d i))

  pub places_full : (n : ℕ) (d : A) (xs : List A) (x : A) → n ≤ length xs → places n d xs ≡ places n d (xs ++ (x ∷ []))
  places_full n d xs x h = sym (set_out (places n d xs) (length xs) x (omega (arith, length_places n d xs))) ∙ places_last n d xs x

  pub get_or_places : (n : ℕ) (d : A) (xs : List A) (i : ℕ) → i < n → get_or (places n d xs) i d ≡ get_or xs i d
  unfolding places
  get_or_places n d xs i h = get_or_tab d n (λ i. get_or xs i d) i h

  -- members that have all their places are all there
  pub take_places : (n : ℕ) (d : A) (xs : List A) → length xs ≤ n → take (length xs) (places n d xs) ≡ xs
  take_places n d xs h = ext_get_or d (take (length xs) (places n d xs)) xs
      (length-take-le (length xs) (places n d xs) (omega (arith, length_places n d xs)))
      λ i k. let l : i < length xs = omega (arith, k, length-take-le (length xs) (places n d xs) (omega (arith, length_places n d xs))) in
      get_or-take (length xs) (places n d xs) i d l ∙ get_or_places n d xs i (omega arith)

-- ---- one property of each member

pub map_last : {A B : Type 0} (f : A → B) (xs : List A) (x : A) → map f (xs ++ (x ∷ [])) ≡ map f xs ++ (f x ∷ [])
map_last f [] x = refl
map_last f (y ∷ ys) x = ap (λ l. f y ∷ l) (map_last f ys x)

-- the places of one property of each member, with a member more: stored, or with no room
module _ {A B : Type 0} (n : ℕ) (d : B) (f : A → B) (xs : List A) (x : A) (count : ℕ)
    (t : List B) (same : t ≡ places n d (map f xs)) (counted : count ≡ length xs) where
  long : count ≡ length (map f xs)
  long = counted ∙ sym (length-map xs f)

  pub placed_last : (y : B) → y ≡ f x → set t count y ≡ places n d (map f (xs ++ (x ∷ [])))
  placed_last y e = rw (same, long, e, map_last f xs x) (places_last n d (map f xs) (f x))

  pub placed_full : n ≤ count → t ≡ places n d (map f (xs ++ (x ∷ [])))
  placed_full h = rw (same, map_last f xs x) (places_full n d (map f xs) (f x) (omega (arith, long)))
