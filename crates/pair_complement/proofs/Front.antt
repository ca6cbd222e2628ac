-- The first numbers of a list negated, the others as they are. Assumes nothing.
use mathlib.Core.Path.{◌≡◌, refl, ap}
use mathlib.Core.List.{List, [], ◌∷◌, ◌++◌, map}
use Prim.Native.Nat.{ℕ, zero, suc, ◌+◌, ◌<◌}
use native.Mathlib.Numerals.{add-one}
use native.Mathlib.Omega.{arith}
use lib.IntN.{ℤ, pos, neg_ℤ, ◌-ℤ◌, +ℤ_idl}
use lib.ListN.{length, get_or, set, take, drop}

abbrev pub front : ℕ → List ℤ → List ℤ
front i xs = map neg_ℤ (take i xs) ++ drop i xs

one_more : (i : ℕ) (xs : List ℤ) (y : ℤ) → y ≡ neg_ℤ (get_or xs i (pos 0)) → i < length xs → set (front i xs) i y ≡ front (suc i) xs
one_more i [] y e h = absurd (omega (arith, h))
one_more zero (x ∷ xs) y e h = ap (λ (z : ℤ). z ∷ xs) e
one_more (suc i) (x ∷ xs) y e h = ap (λ (zs : List ℤ). neg_ℤ x ∷ zs) (one_more i xs y e (omega (arith, h)))

-- one more
pub front_next : (i : ℕ) (xs : List ℤ) (y : ℤ) → y ≡ neg_ℤ (get_or xs i (pos 0)) → i < length xs → set (front i xs) i y ≡ front (i + 1) xs
front_next i xs y e h = rw add-one (one_more i xs y e h)

-- the next one is as it was
pub front_at : (i : ℕ) (xs : List ℤ) → get_or (front i xs) i (pos 0) ≡ get_or xs i (pos 0)
front_at zero xs = refl
front_at (suc i) [] = refl
front_at (suc i) (x ∷ xs) = front_at i xs

-- minus a number
pub minus_is : (z : ℤ) → pos 0 -ℤ z ≡ neg_ℤ z
minus_is z = +ℤ_idl (neg_ℤ z)
