-- Laws of the number of the first test that fails. Assumes nothing.
use Rattle.std.specs.Prelude.{◌≡◌, refl, true, false, List, [], ◌∷◌, ◌++◌, ℕ}
use Rattle.std.proofs.Common.{sym, ap, ◌∙◌, append-nil}
use Rattle.basics.specs.Refusals.{Answer, accepted, refused, Test, ◌else◌, checks, code_of, Passed}
use Rattle.fold_theory.proofs.RefusalLaws.{NoneSays}
use Rattle.fold_edges.specs.Codes.{first_failing}

-- ---- tests and others after them

-- where none of the tests fails, the number is that of the others
pub code_after : (ts us : List Test) → Passed ts → first_failing (ts ++ us) ≡ first_failing us
unfolding first_failing
code_after [] us p = refl
code_after ((true else c) ∷ ts) us p = code_after ts us p.1
code_after ((false else c) ∷ ts) us p = absurd p.0

-- where one fails, its number comes before theirs
pub code_before : (ts us : List Test) → (first_failing ts ≡ 0 → ⊥) → first_failing (ts ++ us) ≡ first_failing ts
unfolding first_failing
code_before [] us h = absurd (h refl)
code_before ((true else c) ∷ ts) us h = code_before ts us h
code_before ((false else c) ∷ ts) us h = refl

-- a number that none of them has says that each of them holds
pub passed_before : (c : ℕ) (ts us : List Test) → NoneSays c ts → first_failing (ts ++ us) ≡ c → Passed ts
unfolding first_failing
passed_before c [] us n e = tt
passed_before c ((true else d) ∷ ts) us n e = (tt, passed_before c ts us n.1 e)
passed_before c ((false else d) ∷ ts) us n e = absurd (n.0 e)

-- ---- tests alone

-- 0 is no test's number: so it says that every test holds
pub code_passed : (ts : List Test) → NoneSays 0 ts → first_failing ts ≡ 0 → Passed ts
code_passed ts n e = passed_before 0 ts [] n (ap first_failing (append-nil ts) ∙ e)

-- any other number is that of the refusal
pub code_refused : {A : Type 0} (ts : List Test) (r : Answer A) → (first_failing ts ≡ 0 → ⊥) → checks ts r ≡ refused (first_failing ts)
unfolding first_failing checks
code_refused [] r h = absurd (h refl)
code_refused ((true else c) ∷ ts) r h = code_refused ts r h
code_refused ((false else c) ∷ ts) r h = refl

-- where an answer is accepted after them, theirs is its number
pub code_checks : {A : Type 0} (ts : List Test) (x : A) → code_of (checks ts (accepted x)) ≡ first_failing ts
unfolding first_failing checks code_of
code_checks [] x = refl
code_checks ((true else c) ∷ ts) x = code_checks ts x
code_checks ((false else c) ∷ ts) x = refl

-- a number that no test has is not given
pub code_never : (c : ℕ) (ts : List Test) → NoneSays c ts → (c ≡ 0 → ⊥) → first_failing ts ≡ c → ⊥
unfolding first_failing
code_never c ts n h e =
    let same = ap first_failing (append-nil ts) ∙ e in
    h (sym same ∙ code_after ts [] (passed_before c ts [] n same))
