-- What the call for one line of the question answers. Document 01, "The question", with the order 20, 19, 21, 18. Nothing is proved here.
use Rattle.std.specs.Prelude.{◌&&◌, List, [], ◌∷◌, ℕ, leb, length}
use Rattle.basics.specs.Refusals.{Answer, accepted, refused, ◌else◌, checks}
use Rattle.network.specs.Record.{net_of, sound_record}
use Rattle.network.specs.declared.Network.{Network}
use Rattle.question_theory.specs.Question.{alike, question}
use Rattle.question_theory.specs.Text.{question_text}
use Rattle.question_text.specs.declared.LineWritten.{LineWritten}

-- the text of line n, where the lent bytes have room for it
unfoldable pub line_answer : Network → Network → ℕ → ℕ → Answer (List ℕ)
line_answer a b n room =
    checks ((sound_record a && sound_record b else 20) ∷ (alike (net_of a) (net_of b) else 19) ∷ (leb n (length (question (net_of a) (net_of b))) else 21)
    ∷ (leb (length (question_text (net_of a) (net_of b) n)) room else 18) ∷ [])
    (accepted (question_text (net_of a) (net_of b) n))

unfoldable pub as_line_written : Answer (List ℕ) → LineWritten
as_line_written (accepted text) = record { code = 0; length = length text }
as_line_written (refused c) = record { code = c; length = 0 }
