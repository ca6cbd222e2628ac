-- What a comparison of two whole files answers, by the comparison of the records of two accepted files. Assumes nothing.
use Rattle.std.specs.Prelude.{◌≡◌, refl, Bool, true, false, List, [], ◌∷◌, ℕ, length}
use Rattle.std.proofs.Common.{◌∙◌}
use Rattle.basics.specs.Refusals.{Answer, accepted, refused, ◌else◌, checks, stored}
use Rattle.network.specs.Record.{net_of}
use Rattle.network.specs.declared.Network.{Network}
use Rattle.pmn_opening.specs.Places.{answer_of}
use Rattle.pmn_opening.specs.Opening.{FileOpen, Opening}
use Rattle.pmn_opening.specs.OpeningLaws.{open_record, read_on, read_refused, open_on, open_refused}
use Rattle.question_theory.specs.Question.{alike}
use Rattle.compare_theory.specs.Verdicts.{Pair, pair_of, comparable}
use Rattle.compare_networks.specs.Answers.{ComparedAs}
use Rattle.compare_networks.specs.Files.{compared_files, CompareLeft}
use Rattle.compare_networks.specs.declared.Compared.{Compared}

-- a refusal: everything as it was
refusal_left : {answer : Answer Pair} {k : ℕ} (budget : ℕ) (lent : List ℕ) → answer ≡ refused k → CompareLeft answer budget lent lent k
refusal_left budget lent e = rw e (refl, refl)

-- the first file's refusal
pub first_refused : {first : List ℕ} {r : Network} {k : ℕ} (second : List ℕ) → Opening first 0 0 k r → (budget : ℕ) (lent : List ℕ) → (k ≡ 0 → ⊥)
    → CompareLeft (compared_files first second (length lent)) budget lent lent k
unfolding compared_files
first_refused second o budget lent h = refusal_left budget lent (read_refused o _ h)

-- the second file's refusal, or too few places
pub second_refused : {first second : List ℕ} {r q : Network} {k : ℕ} → FileOpen first 0 0 r → (budget : ℕ) (lent : List ℕ)
    → Opening second (length lent) 3 k q → (k ≡ 0 → ⊥) → CompareLeft (compared_files first second (length lent)) budget lent lent k
unfolding compared_files
second_refused a budget lent o h = refusal_left budget lent (read_on a _ ∙ open_refused o _ h)

-- ---- the call on the records
files_same : {first second : List ℕ} {r q : Network} (lent : List ℕ) → FileOpen first 0 0 r → FileOpen second (length lent) 3 q
    → compared_files first second (length lent) ≡ comparable (net_of r) (net_of q)
unfolding compared_files
files_same lent a b = read_on a _ ∙ open_on b _ ∙ (λ x. comparable (open_record a x) (open_record b x))

-- what it leaves: the refusal, or the three numbers
left_tests : (b : Bool) (p : Pair) (budget : ℕ) (lent : List ℕ) (r : Compared) → ComparedAs (checks ((b else 19) ∷ []) (accepted p)) budget r
    → CompareLeft (checks ((b else 19) ∷ []) (accepted p)) budget lent (stored (answer_of r.code (r.verdict ∷ r.frame ∷ r.steps ∷ [])) lent) r.code
unfolding checks stored answer_of
left_tests true p budget lent r h = rw h.0 (record { number_is = refl; put = refl; verdict = h.1 })
left_tests false p budget lent r e = rw e (refl, refl)

pub files_left : {first second : List ℕ} {r q : Network} (budget : ℕ) (lent : List ℕ) → FileOpen first 0 0 r → FileOpen second (length lent) 3 q
    → (c : Compared) → ComparedAs (comparable (net_of r) (net_of q)) budget c
    → CompareLeft (compared_files first second (length lent)) budget lent (stored (answer_of c.code (c.verdict ∷ c.frame ∷ c.steps ∷ [])) lent) c.code
unfolding comparable
files_left {r = r} {q} budget lent a b c h = rw (files_same lent a b) (left_tests (alike (net_of r) (net_of q)) (pair_of (net_of r) (net_of q)) budget lent c h)
