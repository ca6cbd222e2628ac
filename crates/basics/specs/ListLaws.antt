-- Laws of lists, ranges and tests over them. Assumes nothing.
use Rattle.std.specs.Prelude.{◌≡◌, refl, Bool, not, cond, ◌&&◌, ◌≢◌, eqb, get_or, replicate}
use Rattle.std.proofs.Common.{sym, ap, ◌∙◌, add-one, T_not, eqb→eq, ext_get_or}
use Rattle.std.proofs.Math.Bool.{true, false}
use mathlib.Core.List.{List, [], ◌∷◌, ◌++◌, map}
use Prim.Native.Nat.{ℕ, zero, suc, ◌+◌, ◌≤◌, ◌<◌}
use Rattle.std.proofs.Math.Decide.{dec_lt}
use native.Mathlib.Omega.{arith}
use Rattle.std.proofs.Math.Dec.{T, eqb_refl}
use Rattle.std.proofs.Math.ListN.{length}
use Rattle.std.proofs.lemmas.List.{length-map, length-replicate, get_or-replicate}
use Rattle.basics.specs.Lists.{all, all_from, below, keep, range, tab, other, Each}
use Rattle.basics.specs.TestLaws.{is_true, T_is, test_same, refuted, fails, T_and, and_T, cond_case, other_ne}

-- ---- below: a test at each number
pub below_none : (p : ℕ → Bool) → below 0 p ≡ true
unfolding below
below_none p = refl

pub below_more : (p : ℕ → Bool) (n : ℕ) → below (n + 1) p ≡ (below n p && p n)
unfolding below
below_more p n = rw add-one

pub below_at : (n : ℕ) (p : ℕ → Bool) → T (below n p) → (s : ℕ) → s < n → T (p s)
unfolding below
below_at zero p h s k = absurd (omega arith)
below_at (suc n) p h s k = elim (dec_lt s n) as (λ d. T (p s)) [
  | yes j ↦ below_at n p (T_and (below n p) (p n) h).0 s j
  | no j ↦ rw (let e : s ≡ n = omega arith in e) (T_and (below n p) (p n) h).1
]

pub at_below : (n : ℕ) (p : ℕ → Bool) → ((s : ℕ) → s < n → T (p s)) → T (below n p)
unfolding below
at_below zero p h = tt
at_below (suc n) p h = and_T (below n p) (p n) (at_below n p λ s k. h s (omega arith)) (h n (omega arith))

-- two tests that are equal at each number
pub below_same : (n : ℕ) (p q : ℕ → Bool) → ((i : ℕ) → i < n → p i ≡ q i) → below n p ≡ below n q
below_same n p q h = test_same (below n p) (below n q)
    (λ t. at_below n q λ i k. T_is (q i) (sym (h i k) ∙ is_true (p i) (below_at n p t i k)))
    (λ t. at_below n p λ i k. T_is (p i) (h i k ∙ is_true (q i) (below_at n q t i k)))

-- one number fails a test of every number
pub below_no : (n : ℕ) (p : ℕ → Bool) (s : ℕ) → s < n → p s ≡ false → below n p ≡ false
below_no n p s h e = refuted (below n p) (λ t. fails (p s) e (below_at n p t s h))

-- ---- each member
module _ {A : Type 0} where
  -- a test of each member with its number, at one
  pub all_from_at : (p : ℕ → A → Bool) (n : ℕ) (xs : List A) (d : A) → T (all_from p n xs) → (i : ℕ) → i < length xs → T (p (n + i) (get_or xs i d))
  unfolding all_from
  all_from_at p n [] d t i h = absurd (omega arith)
  all_from_at p n (x ∷ xs) d t zero h = rw (let e : n + 0 ≡ n = omega arith in e) (T_and (p n x) (all_from p (suc n) xs) t).0
  all_from_at p n (x ∷ xs) d t (suc i) h =
      rw (let e : n + suc i ≡ suc n + i = omega arith in e) (all_from_at p (suc n) xs d (T_and (p n x) (all_from p (suc n) xs) t).1 i (omega arith))

  pub each_of : (p : A → Bool) (P : A → Type 0) → ((x : A) → T (p x) → P x) → (xs : List A) → T (all p xs) → Each P xs
  unfolding all
  each_of p P f [] t = tt
  each_of p P f (x ∷ xs) t = let h = T_and (p x) (all p xs) t in (f x h.0, each_of p P f xs h.1)

  pub of_each : (p : A → Bool) (P : A → Type 0) → ((x : A) → P x → T (p x)) → (xs : List A) → Each P xs → T (all p xs)
  unfolding all
  of_each p P f [] t = tt
  of_each p P f (x ∷ xs) t = and_T (p x) (all p xs) (f x t.0) (of_each p P f xs t.1)

  pub each_imp : (P Q : A → Type 0) → ((x : A) → P x → Q x) → (xs : List A) → Each P xs → Each Q xs
  each_imp P Q f [] t = tt
  each_imp P Q f (x ∷ xs) t = (f x t.0, each_imp P Q f xs t.1)

  pub each_get_or : (P : A → Type 0) (xs : List A) (d : A) → Each P xs → (i : ℕ) → i < length xs → P (get_or xs i d)
  each_get_or P [] d h i k = absurd (omega arith)
  each_get_or P (x ∷ xs) d h zero k = h.0
  each_get_or P (x ∷ xs) d h (suc i) k = each_get_or P xs d h.1 i (omega arith)

  -- a member of a list of which every one passes
  pub all_at : (p : A → Bool) (xs : List A) (d : A) → all p xs ≡ true → (i : ℕ) → i < length xs → p (get_or xs i d) ≡ true
  all_at p xs d h i k =
      let passes : A → Type 0 = λ x. T (p x) in
      is_true (p (get_or xs i d)) (each_get_or passes xs d (each_of p passes (λ x t. t) xs (T_is (all p xs) h)) i k)

  -- two facts of each member
  pub each_both : (P Q : A → Type 0) (xs : List A) → Each P xs → Each Q xs → Each (λ x. P x × Q x) xs
  each_both P Q [] h k = tt
  each_both P Q (x ∷ xs) h k = ((h.0, k.0), each_both P Q xs h.1 k.1)

  pub each_keep : (P : A → Type 0) (p : A → Bool) (xs : List A) → Each P xs → Each P (keep p xs)
  unfolding keep
  each_keep P p [] h = tt
  each_keep P p (x ∷ xs) h = cond_case (Each P) (p x) (λ t. (h.0, each_keep P p xs h.1)) (λ t. each_keep P p xs h.1)

  -- what keep kept passed
  pub kept : (p : A → Bool) (xs : List A) → Each (λ x. T (p x)) (keep p xs)
  unfolding keep
  kept p [] = tt
  kept p (x ∷ xs) = cond_case (Each (λ y. T (p y))) (p x) (λ t. (t, kept p xs)) (λ t. kept p xs)

  pub length_keep : (p : A → Bool) (xs : List A) → length (keep p xs) ≤ length xs
  unfolding keep
  length_keep p [] = omega arith
  length_keep p (x ∷ xs) = elim (p x) as (λ b. length (cond b (x ∷ keep p xs) (keep p xs)) ≤ suc (length xs))
      [ true ↦ omega (arith, length_keep p xs) | false ↦ omega (arith, length_keep p xs) ]

  -- ---- joined lists
  pub each_append : (P : A → Type 0) (xs ys : List A) → Each P xs → Each P ys → Each P (xs ++ ys)
  each_append P [] ys h k = k
  each_append P (x ∷ xs) ys h k = (h.0, each_append P xs ys h.1 k)

  pub append_left : (P : A → Type 0) (xs ys : List A) → Each P (xs ++ ys) → Each P xs
  append_left P [] ys h = tt
  append_left P (x ∷ xs) ys h = (h.0, append_left P xs ys h.1)

  pub append_right : (P : A → Type 0) (xs ys : List A) → Each P (xs ++ ys) → Each P ys
  append_right P [] ys h = h
  append_right P (x ∷ xs) ys h = append_right P xs ys h.1

pub all_other : (u : ℕ) (ss : List ℕ) → T (all (other u) ss) → Each (λ s. s ≢ u) ss
all_other u = each_of (other u) (λ s. s ≢ u) (other_ne u)

-- ---- ranges and tables
pub length_range : (a n : ℕ) → length (range a n) ≡ n
unfolding range
length_range a zero = refl
length_range a (suc n) = ap suc (length_range (suc a) n)

pub length_tab : {A : Type 0} (n : ℕ) (f : ℕ → A) → length (tab n f) ≡ n
length_tab n f = length-map (range 0 n) f ∙ length_range 0 n

range_get_or : {A : Type 0} (d : A) (f : ℕ → A) (a n i : ℕ) → i < n → get_or (map f (range a n)) i d ≡ f (a + i)
unfolding range
range_get_or d f a zero i h = absurd (omega arith)
range_get_or d f a (suc n) zero h = ap f (omega arith)
range_get_or d f a (suc n) (suc i) h = range_get_or d f (suc a) n i (omega arith) ∙ ap f (omega arith)

pub get_or_tab : {A : Type 0} (d : A) (n : ℕ) (f : ℕ → A) (i : ℕ) → i < n → get_or (tab n f) i d ≡ f i
get_or_tab d n f i h = range_get_or d f 0 n i h ∙ ap f (omega arith)

-- a list is the table of its members
pub tab_of : {A : Type 0} (d : A) (n : ℕ) (f : ℕ → A) (xs : List A) → n ≡ length xs → ((i : ℕ) → i < length xs → f i ≡ get_or xs i d) → tab n f ≡ xs
tab_of d n f xs e h = ext_get_or d (tab n f) xs (length_tab n f ∙ e) λ i k. get_or_tab d n f i (omega (arith, length_tab n f)) ∙ h i (omega (arith, length_tab n f))

-- two tables with the same members
range_same : {A : Type 0} (f g : ℕ → A) (a n : ℕ) → ((i : ℕ) → i < a + n → f i ≡ g i) → map f (range a n) ≡ map g (range a n)
unfolding range
range_same f g a zero h = refl
range_same f g a (suc n) h = rw (h a (omega arith), range_same f g (suc a) n (λ i j. h i (omega arith)))

pub tab_same : {A : Type 0} (n : ℕ) (f g : ℕ → A) → ((i : ℕ) → i < n → f i ≡ g i) → tab n f ≡ tab n g
tab_same n f g h = range_same f g 0 n λ i k. h i (omega arith)

-- ---- the values of a function on a range, and a test of each
module _ {A : Type 0} where
  pub each_range : (P : A → Type 0) (f : ℕ → A) (a n : ℕ) → ((i : ℕ) → a ≤ i → i < a + n → P (f i)) → Each P (map f (range a n))
  unfolding range
  each_range P f a zero h = tt
  each_range P f a (suc n) h = (h a (omega arith) (omega arith), each_range P f (suc a) n λ i j k. h i (omega arith) (omega arith))

  pub range_each : (P : A → Type 0) (f : ℕ → A) (a n : ℕ) → Each P (map f (range a n)) → (i : ℕ) → a ≤ i → i < a + n → P (f i)
  unfolding range
  range_each P f a zero h i j k = absurd (omega arith)
  range_each P f a (suc n) h i j k = elim (dec_lt a i) as (λ d. P (f i)) [
    | yes l ↦ range_each P f (suc a) n h.1 i l (omega arith)
    | no l ↦ rw (let e : i ≡ a = omega arith in e) h.0
  ]

  pub all_tab : (p : A → Bool) (n : ℕ) (f : ℕ → A) → all p (tab n f) ≡ below n (λ i. p (f i))
  all_tab p n f = test_same (all p (tab n f)) (below n (λ i. p (f i)))
      (λ t. at_below n (λ i. p (f i)) λ i k.
      range_each (λ x. T (p x)) f 0 n (each_of p (λ x. T (p x)) (λ x u. u) (tab n f) t) i (omega arith) (omega arith))
      (λ t. of_each p (λ x. T (p x)) (λ x u. u) (tab n f) (each_range (λ x. T (p x)) f 0 n λ i j k. below_at n (λ i. p (f i)) t i (omega arith)))

-- a run of one value has it at every place, past its end too
pub get_or_spare : {A : Type 0} (n i : ℕ) (a : A) → get_or (replicate n a) i a ≡ a
get_or_spare zero i a = refl
get_or_spare (suc n) zero a = refl
get_or_spare (suc n) (suc i) a = get_or_spare n i a

-- a run of one value is its table
pub tab_replicate : {A : Type 0} (n : ℕ) (a : A) → tab n (λ i. a) ≡ replicate n a
tab_replicate n a = tab_of a n (λ i. a) (replicate n a) (sym (length-replicate n a)) λ i h. sym (get_or-replicate n i a a (omega (arith, length-replicate n a)))

pub range_append : (a n m : ℕ) → range a (n + m) ≡ range a n ++ range (a + n) m
unfolding range
range_append a zero m = ap (range a) (let e : 0 + m ≡ m = omega arith in e) ∙ ap (λ (x : ℕ). range x m) (let e : a ≡ a + 0 = omega arith in e)
range_append a (suc n) m =
    let longer : suc n + m ≡ suc (n + m) = omega arith in
    let later : suc a + n ≡ a + suc n = omega arith in
    ap (range a) longer ∙ ap (λ (l : List ℕ). a ∷ l) (range_append (suc a) n m ∙ ap (λ (x : ℕ). range (suc a) n ++ range x m) later)

pub range_more : (a n : ℕ) → range a (n + 1) ≡ range a n ++ ((a + n) ∷ [])
unfolding range
range_more a n = range_append a n 1

-- ---- what is kept of a range
pub range_at : (P : ℕ → Type 0) (p : ℕ → Bool) (a n : ℕ) → Each P (keep p (range a n)) → (s : ℕ) → a ≤ s → s < a + n → T (p s) → P s
unfolding keep range
range_at P p a zero h s k l t = absurd (omega arith)
range_at P p a (suc n) h s k l t = elim (dec_lt a s) as (λ d. P s) [
  | yes j ↦ range_at P p (suc a) n (cond_case (λ r. Each P r → Each P (keep p (range (suc a) n))) (p a) (λ b h. h.1) (λ b h. h) h) s j (omega arith) t
  | no j ↦ let e : a ≡ s = omega arith in cond_case (λ r. Each P r → P s) (p a) (λ b h. rw (← e) h.0) (λ b h. absurd (T_not (p a) b (rw e t))) h
]

-- ---- each member of a list is one that the list has
pub each_has : (P : ℕ → Type 0) (ss : List ℕ) → ((s : ℕ) → T (not (all (other s) ss)) → P s) → Each P ss
unfolding all other
each_has P [] h = tt
each_has P (x ∷ ss) h = (h x (rw (is_true (eqb x x) (eqb_refl x)) tt), each_has P ss λ s t. h s (more s t))
  where
    more : (s : ℕ) → T (not (all (other s) ss)) → T (not (not (eqb x s) && all (other s) ss))
    more s t = elim (eqb x s) as (λ b. T (not (not b && all (other s) ss))) [ true ↦ tt | false ↦ t ]

pub has_each : (P : ℕ → Type 0) (ss : List ℕ) → Each P ss → (s : ℕ) → T (not (all (other s) ss)) → P s
unfolding all other
has_each P [] h s t = absurd t
has_each P (x ∷ ss) h s t = elim (eqb x s) as (λ b. (T b → x ≡ s) → T (not (not b && all (other s) ss)) → P s)
    [ true ↦ λ e t. rw (← (e tt)) h.0 | false ↦ λ e t. has_each P ss h.1 s t ] (eqb→eq x s) t
