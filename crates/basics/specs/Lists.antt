-- Lists, ranges and tests over them: the small vocabulary of the definitions. Nothing is proved here.
use Rattle.std.specs.Prelude.{Bool, true, not, cond, ◌&&◌, List, [], ◌∷◌, map, ℕ, zero, suc, leb, eqb, get_or}

-- p holds of each member
unfoldable pub all : {A : Type 0} → (A → Bool) → List A → Bool
all p [] = true
all p (x ∷ xs) = p x && all p xs

-- p holds of each member with its number, the first with number n
unfoldable pub all_from : {A : Type 0} → (ℕ → A → Bool) → ℕ → List A → Bool
all_from p n [] = true
all_from p n (x ∷ xs) = p n x && all_from p (suc n) xs

-- p holds of each number below n
unfoldable pub below : ℕ → (ℕ → Bool) → Bool
below zero p = true
below (suc n) p = below n p && p n

-- every test of the list holds
unfoldable pub every : List Bool → Bool
every [] = true
every (b ∷ bs) = b && every bs

-- the members of which p holds, in their order
unfoldable pub keep : {A : Type 0} → (A → Bool) → List A → List A
keep p [] = []
keep p (x ∷ xs) = cond (p x) (x ∷ keep p xs) (keep p xs)

-- a, a + 1, .., n of them
unfoldable pub range : ℕ → ℕ → List ℕ
range a zero = []
range a (suc n) = a ∷ range (suc a) n

-- f 0, f 1, .., n of them
abbrev pub tab : {A : Type 0} → ℕ → (ℕ → A) → List A
tab n f = map f (range 0 n)

-- the n places of a list, spare ones d
unfoldable pub places : {A : Type 0} → ℕ → A → List A → List A
places n d xs = tab n (λ i. get_or xs i d)

-- n lies from a to b
unfoldable pub between : ℕ → ℕ → ℕ → Bool
between a b n = leb a n && leb n b

-- s is not u
unfoldable pub other : ℕ → ℕ → Bool
other u s = not (eqb s u)

-- P holds of each member
abbrev pub Each : {A : Type 0} → (A → Type 0) → List A → Type 0
Each P [] = Unit {0}
Each P (x ∷ xs) = P x × Each P xs
