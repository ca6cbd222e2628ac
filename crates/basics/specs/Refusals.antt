-- Answers and refusals. A call's order is a list of tests, each with its number; the first that fails is the answer. "A refusal .. touches
-- no lent byte." Nothing is proved here.
use Rattle.std.specs.Prelude.{Bool, cond, List, [], ◌∷◌, ◌++◌, ℕ, T, length, drop}

-- "accepted", with what the call gives, or the number of a refusal
pub data Answer (A : Type 0) : Type 0 where
  accepted : A → Answer A
  refused : ℕ → Answer A

-- the number of an answer, 0 for accepted
unfoldable pub code_of : {A : Type 0} → Answer A → ℕ
code_of (accepted a) = 0
code_of (refused k) = k

-- what a call leaves in lent places: a list at the front and what stood after it, or what stood there
unfoldable pub stored : {A : Type 0} → Answer (List A) → List A → List A
stored (accepted xs) lent = xs ++ drop (length xs) lent
stored (refused k) lent = lent

-- a test, and the number of the refusal where it fails
infix 20 ◌else◌
pub data Test : Type 0 where
  ◌else◌ : Bool → ℕ → Test

-- the first refusal in order, or else r
unfoldable pub checks : {A : Type 0} → List Test → Answer A → Answer A
checks [] r = r
checks ((b else c) ∷ ts) r = cond b (checks ts r) (refused c)

-- what follows an accepted answer; a refusal stays
unfoldable pub bind : {A B : Type 0} → Answer A → (A → Answer B) → Answer B
bind (accepted a) f = f a
bind (refused c) f = refused c

-- every test of the list holds
abbrev pub Passed : List Test → Type 0
Passed [] = Unit {0}
Passed ((b else c) ∷ ts) = T b × Passed ts
