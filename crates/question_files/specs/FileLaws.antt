-- A line of the question for two files is that of the records of their networks. Assumes nothing.
use Rattle.std.specs.Prelude.{◌≡◌, refl, Bool, true, false, ◌&&◌, List, [], ◌∷◌, ℕ, leb, length}
use Rattle.std.proofs.Common.{sym, ◌∙◌}
use Rattle.basics.specs.Refusals.{Answer, accepted, refused, Test, ◌else◌, checks, code_of, stored}
use Rattle.basics.specs.RefusalLaws.{checks_next}
use Rattle.basics.specs.TestLaws.{both_true}
use Rattle.network.specs.Threshold.{Net}
use Rattle.network.specs.Record.{net_of, sound_record}
use Rattle.network.specs.declared.Network.{Network}
use Rattle.question_theory.specs.Question.{question, alike}
use Rattle.question_theory.specs.Text.{question_text}
use Rattle.pmn_opening.specs.Files.{room, length_of}
use Rattle.pmn_opening.specs.Places.{answer_of}
use Rattle.pmn_opening.specs.Opening.{FileOpen, Opening}
use Rattle.pmn_opening.specs.OpeningLaws.{file_sound, open_record, read_on, open_on, open_refused}
use Rattle.question_text.specs.Answers.{line_answer, as_line_written}
use Rattle.question_files.specs.Files.{line_out}
use Rattle.question_text.specs.declared.LineWritten.{LineWritten}

-- the second file's refusal, or no place for the length
pub line_refused : {first second : List ℕ} {r q : Network} {k : ℕ} → FileOpen first 0 0 r → (n : ℕ) (out lent : List ℕ)
    → Opening second (length lent) 1 k q → (k ≡ 0 → ⊥) → line_out first second n out lent ≡ refused k
unfolding line_out
line_refused a n out lent o h = read_on a _ ∙ open_refused o _ h

-- ---- the call

-- its tests after that of the records
abbrev line_tests : Net → Net → ℕ → ℕ → List Test
line_tests N M n k = (alike N M else 19) ∷ (leb n (length (question N M)) else 21) ∷ (leb (length (question_text N M n)) k else 18) ∷ []

line_sound : (r q : Network) → sound_record r ≡ true → sound_record q ≡ true → (n k : ℕ)
    → line_answer r q n k ≡ checks (line_tests (net_of r) (net_of q) n k) (accepted (question_text (net_of r) (net_of q) n))
unfolding line_answer
line_sound r q s t n k = checks_next (sound_record r && sound_record q) 20 _ _ (both_true (sound_record r) (sound_record q) s t)

-- the call on the records of two accepted files is the answer
line_same : {first second : List ℕ} {r q : Network} (n : ℕ) (out lent : List ℕ) → FileOpen first 0 0 r → FileOpen second (length lent) 1 q
    → line_out first second n out lent ≡ line_answer r q n (length out)
unfolding line_out room
line_same {r = r} {q} n out lent a b =
    let answer : Net → Net → Answer (List ℕ) = λ N M. checks (line_tests N M n (length out)) (accepted (question_text N M n)) in
    read_on a _
    ∙ open_on b _
    ∙ (λ x. answer (open_record a x) (open_record b x))
    ∙ sym (line_sound r q (file_sound a) (file_sound b) n (length out))

-- ---- what it leaves: the answer's number, the bytes, and their length in its place
abbrev LineLeft : Answer (List ℕ) → LineWritten → List ℕ → List ℕ → List ℕ → Type 0
LineLeft a w out after lent =
    (w.code ≡ code_of a) × ((after ≡ stored a out) × (stored (answer_of w.code (w.length ∷ [])) lent ≡ stored (length_of a) lent))

left_tests : (b c d : Bool) (text out lent : List ℕ) → let a = checks ((b else 19) ∷ (c else 21) ∷ (d else 18) ∷ []) (accepted text) in
    LineLeft a (as_line_written a) out (stored a out) lent
unfolding checks as_line_written code_of stored answer_of length_of
left_tests true true true text out lent = (refl, (refl, refl))
left_tests true true false text out lent = (refl, (refl, refl))
left_tests true false d text out lent = (refl, (refl, refl))
left_tests false c d text out lent = (refl, (refl, refl))

pub line_left : {first second : List ℕ} {r q : Network} (n : ℕ) (out lent : List ℕ) → FileOpen first 0 0 r → FileOpen second (length lent) 1 q
    → {w : LineWritten} → w ≡ as_line_written (line_answer r q n (length out)) → {after : List ℕ} → after ≡ stored (line_answer r q n (length out)) out
    → LineLeft (line_out first second n out lent) w out after lent
line_left {r = r} {q} n out lent a b {w} e {after} d =
    let N = net_of r in
    let M = net_of q in
    let same = line_sound r q (file_sound a) (file_sound b) n (length out) in
    rw (line_same n out lent a b, e, d, same)
    (left_tests (alike N M) (leb n (length (question N M))) (leb (length (question_text N M n)) (length out)) (question_text N M n) out lent)
