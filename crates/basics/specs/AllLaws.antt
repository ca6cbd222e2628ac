-- A test of every member, and of every number below one, as `all` answers it. Assumes nothing.
use Rattle.std.proofs.Common.{◌≡◌, refl, sym, ap, ◌∙◌, Bool, ◌&&◌, List, [], ◌∷◌, ℕ, arith, length, get_or}
use Rattle.std.specs.List.{list_all, range_with_len}
use Rattle.std.proofs.lemmas.List.FromFn.{length-range_with_len, get_or-range_with_len}
use Rattle.basics.specs.Lists.{all, below}
use Rattle.basics.specs.ListLaws.{all_tab, tab_of, below_same}

pub all_is : {A : Type 0} (p : A → Bool) (xs : List A) → list_all p xs ≡ all p xs
unfolding all
all_is p [] = refl
all_is p (x ∷ xs) = ap (λ b. p x && b) (all_is p xs)

-- every member, by its place
pub all_below : {A : Type 0} (p : A → Bool) (d : A) (xs : List A) → list_all p xs ≡ below (length xs) (λ i. p (get_or xs i d))
all_below p d xs = all_is p xs ∙ ap (all p) (sym (tab_of d (length xs) (λ i. get_or xs i d) xs refl (λ i h. refl)))
    ∙ all_tab p (length xs) (λ i. get_or xs i d)

-- every number below n
pub all_range : (p : ℕ → Bool) (n : ℕ) → list_all p (range_with_len 0 n) ≡ below n p
all_range p n = all_below p 0 (range_with_len 0 n) ∙ ap (λ (k : ℕ). below k (λ i. p (get_or (range_with_len 0 n) i 0))) (length-range_with_len 0 n)
    ∙ below_same n _ _ (λ i h. ap p (get_or-range_with_len 0 n i 0 h ∙ omega arith))
