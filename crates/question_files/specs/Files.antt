-- What a line of the question for two whole files answers, with the order as the first file is read, as the second is read, 18, 19, 21, 18.
-- A refusal leaves everything as it was. Nothing is proved here.
use Rattle.std.specs.Prelude.{List, [], ◌∷◌, ℕ, leb, length}
use Rattle.basics.specs.Refusals.{Answer, accepted, ◌else◌, checks, bind}
use Rattle.question_theory.specs.Question.{question, alike}
use Rattle.question_theory.specs.Text.{question_text}
use Rattle.pmn_opening.specs.Files.{read_net, open_net, room}

-- line n of the question for two files
unfoldable pub line_out : List ℕ → List ℕ → ℕ → List ℕ → List ℕ → Answer (List ℕ)
line_out first second n out answer = bind (read_net first) (λ N. bind (open_net second (length answer) 1) (λ M.
    checks ((alike N M else 19) ∷ (leb n (length (question N M)) else 21)
    ∷ (room (length (question_text N M n)) out else 18) ∷ [])
    (accepted (question_text N M n))))
