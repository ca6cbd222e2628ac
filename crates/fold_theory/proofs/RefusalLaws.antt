-- More laws of answers and refusals: where a refusal comes from. Assumes nothing.
use Rattle.std.specs.Prelude.{◌≡◌, true, false, List, [], ◌∷◌, ◌≢◌, ℕ}
use Rattle.std.proofs.Common.{subst}
use Rattle.basics.specs.Refusals.{Answer, accepted, refused, Test, ◌else◌, checks, bind, Passed}
use Rattle.basics.specs.RefusalLaws.{Refused, passed_checks}

refused_inj : {A : Type 0} {c d : ℕ} → ◌≡◌ {A = Answer A} (refused c) (refused d) → c ≡ d
refused_inj e = cc

-- where every test holds, the refusal is the last answer's
pub checks_refused : {A : Type 0} (ts : List Test) (r : Answer A) → Passed ts → Refused (checks ts r) → Refused r
checks_refused ts r p h = subst Refused (passed_checks ts r p) h

pub bind_refused : {A B X : Type 0} (r : Answer A) (f : A → Answer B) → Refused (bind r f) → (Refused r → X) → ((a : A) → Refused (f a) → X) → X
unfolding bind
bind_refused (accepted a) f h x y = y a h
bind_refused (refused c) f h x y = x tt

-- c is the number of none of the tests
abbrev pub NoneSays : ℕ → List Test → Type 0
NoneSays c [] = Unit {0}
NoneSays c ((b else d) ∷ ts) = (d ≢ c) × NoneSays c ts

-- a refusal with another number than the tests' is the last answer's
checks_last : {A : Type 0} (ts : List Test) (r : Answer A) (c : ℕ) → NoneSays c ts → checks ts r ≡ refused c → r ≡ refused c
unfolding checks
checks_last [] r c n e = e
checks_last ((true else d) ∷ ts) r c n e = checks_last ts r c n.1 e
checks_last ((false else d) ∷ ts) r c n e = absurd (n.0 (refused_inj e))

-- ---- an answer that never has a number
abbrev pub NeverSays : {A : Type 0} → ℕ → Answer A → Type 0
NeverSays c (accepted a) = Unit {0}
NeverSays c (refused d) = d ≢ c

pub checks_never : {A : Type 0} (c : ℕ) (ts : List Test) (r : Answer A) → NoneSays c ts → NeverSays c r → NeverSays c (checks ts r)
unfolding checks
checks_never c [] r h n = n
checks_never c ((true else d) ∷ ts) r h n = checks_never c ts r h.1 n
checks_never c ((false else d) ∷ ts) r h n = h.0

pub bind_never : {A B : Type 0} (c : ℕ) (r : Answer A) (f : A → Answer B) → NeverSays c r → ((a : A) → NeverSays c (f a)) → NeverSays c (bind r f)
unfolding bind
bind_never c (accepted a) f n h = h a
bind_never c (refused d) f n h = n

-- the number of a refusal is not 0
abbrev pub Numbered : {A : Type 0} → Answer A → Type 0
Numbered r = NeverSays 0 r
