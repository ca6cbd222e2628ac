-- A table of a list's members, spare places included, after one member more. Assumes nothing.
use mathlib.Core.Path.{◌≡◌, refl, ap}
use mathlib.Core.List.{List, [], ◌∷◌, ◌++◌}
use Prim.Native.Nat.{ℕ, ◌<◌}
use lib.ListN.{length, get_or, set}
use lib.Seq.{get_or_at}
use Rattle.basics.specs.Lists.{tab}
use Rattle.basics.specs.TableLaws.{tab_set, get_or_end_other}

pub tab_end : {A B : Type 0} (d : A) (f : A → B) (n : ℕ) (xs : List A) (x : A) → length xs < n
    → tab n (λ i. f (get_or (xs ++ (x ∷ [])) i d)) ≡ set (tab n (λ i. f (get_or xs i d))) (length xs) (f x)
tab_end d f n xs x h = tab_set (f d) n (length xs) (λ i. f (get_or (xs ++ (x ∷ [])) i d)) (λ i. f (get_or xs i d)) (f x) h
    (ap f (get_or_at xs x [] d (length xs) refl)) (λ i k. ap f (get_or_end_other d xs x i k))
