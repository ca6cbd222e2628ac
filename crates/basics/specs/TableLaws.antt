-- Laws of lists by their members: a range that starts later, a table with one value changed, a list with one member more. Assumes
-- nothing.
use Rattle.std.specs.Prelude.{◌≡◌, refl, List, [], ◌∷◌, ◌++◌, map, ◌≢◌, ℕ, zero, suc, ◌+◌, ◌≤◌, ◌<◌, length, get_or, set}
use Rattle.std.proofs.Common.{sym, ap, ◌∙◌, arith, length-set, length-append, get_or-set_same, get_or-set_other}
use Rattle.std.proofs.lemmas.Simd.{map-map}
use Rattle.std.proofs.Math.Decide.{ℕ_discrete, dec_lt}
use Rattle.std.proofs.Math.ListN.{get_or-append, get_or-eq_default}
use Rattle.basics.specs.Lists.{range, tab}
use Rattle.basics.specs.ListLaws.{length_tab, get_or_tab, tab_of}

map_shift : {A : Type 0} (f : ℕ → A) (a b n : ℕ) → map f (range (a + b) n) ≡ map (λ i. f (a + i)) (range b n)
unfolding range
map_shift f a b zero = refl
map_shift f a b (suc n) =
    let e : suc (a + b) ≡ a + suc b = omega arith in
    ap (λ (l : List _). f (a + b) ∷ l) (ap (λ (k : ℕ). map f (range k n)) e ∙ map_shift f a (suc b) n)

-- a range that starts at a, as a table
pub range_tab : {A : Type 0} (f : ℕ → A) (a n : ℕ) → map f (range a n) ≡ tab n (λ i. f (a + i))
range_tab f a n = ap (λ (k : ℕ). map f (range k n)) (let e : a ≡ a + 0 = omega arith in e) ∙ map_shift f a 0 n

-- f of each member, at a place within the list
pub get_d_map : {A B : Type 0} (f : A → B) (xs : List A) (i : ℕ) (a : A) (b : B) → i < length xs → get_or (map f xs) i b ≡ f (get_or xs i a)
get_d_map f [] i a b h = absurd (omega arith)
get_d_map f (x ∷ xs) zero a b h = refl
get_d_map f (x ∷ xs) (suc i) a b h = get_d_map f xs i a b (omega arith)

-- f of each value of a table
pub map_tab : {A B : Type 0} (f : A → B) (n : ℕ) (g : ℕ → A) → map f (tab n g) ≡ tab n (λ i. f (g i))
map_tab f n g = map-map f g (range 0 n)

-- two tables that agree at a place
pub tab_agree : {A : Type 0} (d : A) (n : ℕ) (f g : ℕ → A) (i : ℕ) → f i ≡ g i → get_or (tab n f) i d ≡ get_or (tab n g) i d
tab_agree d n f g i e = elim (dec_lt i n) as (λ t. get_or (tab n f) i d ≡ get_or (tab n g) i d) [
  | yes k ↦ get_or_tab d n f i k ∙ e ∙ sym (get_or_tab d n g i k)
  | no k ↦ get_or-eq_default (tab n f) d {n = i} (omega (arith, length_tab n f))
      ∙ sym (get_or-eq_default (tab n g) d {n = i} (omega (arith, length_tab n g)))
]

-- a table whose rule gives d past its end, at any place
pub tab_any : {A : Type 0} (d : A) (n : ℕ) (f : ℕ → A) (i : ℕ) → (n ≤ i → f i ≡ d) → get_or (tab n f) i d ≡ f i
tab_any d n f i h = elim (dec_lt i n) as (λ t. get_or (tab n f) i d ≡ f i) [
  | yes k ↦ get_or_tab d n f i k
  | no k ↦ get_or-eq_default (tab n f) d {n = i} (omega (arith, length_tab n f)) ∙ sym (h (omega arith))
]

-- a table that differs from another at one place
pub tab_set : {A : Type 0} (d : A) (n k : ℕ) (f g : ℕ → A) (x : A) → k < n → f k ≡ x → ((i : ℕ) → i ≢ k → f i ≡ g i) → tab n f ≡ set (tab n g) k x
tab_set d n k f g x h e o = tab_of d n f (set (tab n g) k x) (sym (length-set (tab n g) k x ∙ length_tab n g))
    λ i j. elim (ℕ_discrete i k) as (λ t. f i ≡ get_or (set (tab n g) k x) i d) [
      | yes q ↦ ap f q ∙ e ∙ sym (get_or-set_same (tab n g) k x d (omega (arith, length_tab n g))) ∙ ap (λ (m : ℕ). get_or (set (tab n g) k x) m d) (sym q)
      | no q ↦ o i q ∙ sym (get_or_tab d n g i (omega (arith, length-set (tab n g) k x, length_tab n g))) ∙ sym (get_or-set_other (tab n g) k i x d q)
    ]

-- one member more at the end leaves the others
pub get_or_end_other : {A : Type 0} (d : A) (xs : List A) (x : A) (i : ℕ) → i ≢ length xs → get_or (xs ++ (x ∷ [])) i d ≡ get_or xs i d
get_or_end_other d xs x i n = elim (dec_lt i (length xs)) as (λ t. get_or (xs ++ (x ∷ [])) i d ≡ get_or xs i d) [
  | yes k ↦ get_or-append xs (x ∷ []) d i k
  | no k ↦ get_or-eq_default (xs ++ (x ∷ [])) d {n = i} (omega (arith, length-append xs (x ∷ []))) ∙ sym (get_or-eq_default xs d {n = i} (omega arith))
]
