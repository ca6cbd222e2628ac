-- Laws of a test of every member, as `all` answers it. Assumes nothing.
use Rattle.std.proofs.Common.{◌≡◌, refl, sym, ap, ◌∙◌, Bool, ◌&&◌, ◌||◌, List, [], ◌∷◌, ℕ, suc, ◌+◌, ◌-◌, ◌≤◌, ◌<◌, T, ltb, lt→ltb, arith, length, get_or, take, drop, get_or-take, get_or-drop, length-take-le, length-drop, take_all}
use Rattle.std.specs.List.{list_all, range_with_len}
use Rattle.std.proofs.lemmas.List.FromFn.{length-range_with_len, get_or-range_with_len}
use Rattle.std.proofs.Math.Decide.{dec_lt}
use Rattle.basics.specs.AllLaws.{all_is, all_below}
use Rattle.basics.specs.Lists.{all, all_from, below, tab}
use Rattle.basics.specs.ListLaws.{all_tab, tab_of, below_at, at_below, below_same, all_from_at, length_tab, get_or_tab}
use Rattle.basics.specs.TestLaws.{test_same, T_or, or_T, or_second, T_and, and_T, not_below}

-- every one of the first n members
pub all_first : {A : Type 0} (p : A → Bool) (d : A) (n : ℕ) (xs : List A) → n ≤ length xs
    → list_all p (take n xs) ≡ all p (tab n (λ i. get_or xs i d))
all_first p d n xs h = all_is p (take n xs) ∙ ap (all p) (sym (tab_of d n (λ i. get_or xs i d) (take n xs) (sym (length-take-le n xs h))
    (λ i k. sym (get_or-take n xs i d (omega (arith, length-take-le n xs h))))))

-- every member from n on, and all together where the first n need no test
below_tail : (n m : ℕ) (p : ℕ → Bool) → n ≤ m → below (m - n) (λ i. p (n + i)) ≡ below m (λ j. ltb j n || p j)
below_tail n m p h = test_same (below (m - n) (λ i. p (n + i))) (below m (λ j. ltb j n || p j))
    (λ t. at_below m (λ j. ltb j n || p j) λ j k. elim (dec_lt j n) as (λ d. T (ltb j n || p j)) [
      | yes l ↦ T_or (ltb j n) (p j) (lt→ltb j n l)
      | no l ↦ or_T (ltb j n) (p j) (rw (let e : j ≡ n + (j - n) = omega arith in e) (below_at (m - n) (λ i. p (n + i)) t (j - n) (omega arith)))
    ])
    (λ t. at_below (m - n) (λ i. p (n + i)) λ i k.
    or_second (ltb (n + i) n) (p (n + i)) (not_below (n + i) n (omega arith)) (below_at m (λ j. ltb j n || p j) t (n + i) (omega arith)))

pub all_rest : {A : Type 0} (p : A → Bool) (d : A) (n m : ℕ) (xs : List A) → length xs ≡ m → n ≤ m
    → list_all p (take (m - n) (drop n xs)) ≡ below m (λ j. ltb j n || p (get_or xs j d))
all_rest p d n m xs e h =
    let long : length (drop n xs) ≡ m - n = length-drop n xs ∙ omega arith in
    ap (list_all p) (take_all (m - n) (drop n xs) (omega arith)) ∙ all_below p d (drop n xs)
    ∙ ap (λ (k : ℕ). below k (λ i. p (get_or (drop n xs) i d))) long
    ∙ below_same (m - n) _ _ (λ i k. ap p (get_or-drop n xs i d))
    ∙ below_tail n m (λ j. p (get_or xs j d)) h

-- two tests at once
pub below_both : (n : ℕ) (p q : ℕ → Bool) → below n p && below n q ≡ below n (λ i. p i && q i)
below_both n p q = test_same (below n p && below n q) (below n (λ i. p i && q i))
    (λ t. let h = T_and (below n p) (below n q) t in
    at_below n (λ i. p i && q i) λ i k. and_T (p i) (q i) (below_at n p h.0 i k) (below_at n q h.1 i k))
    (λ t. and_T (below n p) (below n q)
    (at_below n p λ i k. (T_and (p i) (q i) (below_at n (λ i. p i && q i) t i k)).0)
    (at_below n q λ i k. (T_and (p i) (q i) (below_at n (λ i. p i && q i) t i k)).1))

-- each member with its number
all_from_of : {A : Type 0} (p : ℕ → A → Bool) (n : ℕ) (xs : List A) (d : A) → ((i : ℕ) → i < length xs → T (p (n + i) (get_or xs i d))) → T (all_from p n xs)
unfolding all_from
all_from_of p n [] d h = tt
all_from_of p n (x ∷ xs) d h = and_T (p n x) (all_from p (suc n) xs)
    (rw (let e : n ≡ n + 0 = omega arith in e) (h 0 (omega arith)))
    (all_from_of p (suc n) xs d λ i k. rw (let e : suc n + i ≡ n + suc i = omega arith in e) (h (suc i) (omega arith)))

pub all_from_tab : {A : Type 0} (p : ℕ → A → Bool) (n k : ℕ) (f : ℕ → A) (d : A) → below k (λ i. p (n + i) (f i)) ≡ all_from p n (tab k f)
all_from_tab p n k f d = test_same (below k (λ i. p (n + i) (f i))) (all_from p n (tab k f))
    (λ t. all_from_of p n (tab k f) d λ i h.
    let l : i < k = omega (arith, length_tab k f) in rw (get_or_tab d k f i l) (below_at k (λ i. p (n + i) (f i)) t i l))
    (λ t. at_below k (λ i. p (n + i) (f i)) λ i h.
    rw (get_or_tab d k f i h) at (all_from_at p n (tab k f) d t i (omega (arith, length_tab k f))))
