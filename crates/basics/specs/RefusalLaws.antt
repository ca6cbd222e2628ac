-- Laws of answers and refusals. Assumes nothing.
use Rattle.std.specs.Prelude.{◌≡◌, refl, Bool, true, false, List, [], ◌∷◌, ℕ}
use Rattle.std.proofs.Common.{sym, ap, arith}
use Rattle.basics.specs.Refusals.{Answer, accepted, refused, code_of, stored, Test, ◌else◌, checks, bind, Passed}

-- an answer that is a refusal
abbrev pub Refused : {A : Type 0} → Answer A → Type 0
Refused (accepted a) = ⊥
Refused (refused c) = Unit {0}

pub accepted≢refused : {A X : Type 0} {a : A} {c : ℕ} → accepted a ≡ refused c → X
accepted≢refused e = let z : ◌≡◌ {A = ℕ} 0 1 = cc in absurd (omega arith)

pub accepted_inj : {A : Type 0} {a b : A} → accepted a ≡ accepted b → a ≡ b
accepted_inj e = cc

pub checks_accepted : {A : Type 0} (ts : List Test) (r : Answer A) {a : A} → checks ts r ≡ accepted a → Passed ts × (r ≡ accepted a)
unfolding checks
checks_accepted [] r e = (tt, e)
checks_accepted ((true else c) ∷ ts) r e = let h = checks_accepted ts r e in ((tt, h.0), h.1)
checks_accepted ((false else c) ∷ ts) r e = accepted≢refused (sym e)

pub passed_checks : {A : Type 0} (ts : List Test) (r : Answer A) → Passed ts → checks ts r ≡ r
unfolding checks
passed_checks [] r p = refl
passed_checks ((true else c) ∷ ts) r p = passed_checks ts r p.1
passed_checks ((false else c) ∷ ts) r p = absurd p.0

-- the first test, as code asks it
pub checks_first : {A : Type 0} (b : Bool) (c : ℕ) (ts : List Test) (r : Answer A) → b ≡ false → checks ((b else c) ∷ ts) r ≡ refused c
unfolding checks
checks_first b c ts r e = rw e

pub checks_next : {A : Type 0} (b : Bool) (c : ℕ) (ts : List Test) (r : Answer A) → b ≡ true → checks ((b else c) ∷ ts) r ≡ checks ts r
unfolding checks
checks_next b c ts r e = rw e

pub checks_none : {A : Type 0} (r : Answer A) → checks [] r ≡ r
unfolding checks
checks_none r = refl

pub bind_accepted : {A B : Type 0} (r : Answer A) (f : A → Answer B) {b : B} → bind r f ≡ accepted b → (a : A) × (r ≡ accepted a) × (f a ≡ accepted b)
unfolding bind
bind_accepted (accepted a) f e = (a, refl, e)
bind_accepted (refused c) f e = accepted≢refused (sym e)

-- ---- what an answer leaves in one lent slice
module _ {A : Type 0} {a : Answer (List A)} where
  -- equal answers leave the same
  pub left_one : {b : Answer (List A)} → a ≡ b → (lent : List A) → (code_of b ≡ code_of a) × (stored b lent ≡ stored a lent)
  left_one e lent = (sym (ap code_of e), sym (ap (λ (x : Answer (List A)). stored x lent) e))

  -- a refusal: its number, and everything as it was
  pub refused_one : {k : ℕ} (lent : List A) → a ≡ refused k → (k ≡ code_of a) × (lent ≡ stored a lent)
  unfolding code_of stored
  refused_one lent e = left_one e lent
