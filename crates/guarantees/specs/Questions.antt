-- Demand 2's last sentence, on records, and what the question's text says. Nothing is proved here.
use Rattle.std.specs.Prelude.{◌≡◌, true, ℕ, suc, ◌≤◌, ◌<◌, length, get_or}
use Rattle.basics.specs.Library.{some}
use Rattle.basics.specs.Lists.{Each}
use Rattle.network.specs.Record.{net_of, sound_record}
use Rattle.network.specs.declared.Network.{Network}
use Rattle.question_theory.specs.Question.{question, variables, alike}
use Rattle.question_theory.specs.Text.{no_line, question_text}
use Rattle.question_theory.specs.Meaning.{line_of, header_of}
use Rattle.question_theory.specs.Demand.{Decides, DecidesWritten, Named}

-- two sound records with equal input and output counts: the question has a 0/1 solution exactly when some frame makes their outputs
-- differ, said of its lines and of what is written; the header's text says the number of variables and of lines after it, and the text
-- of each line says that line; every variable is one of those that the header counts; no text is longer than 254 bytes
pub record QuestionClaim (a b : Network) : Type 0 where
  pub decides : Decides (net_of a) (net_of b)
  pub decides_written : DecidesWritten (net_of a) (net_of b)
  pub header : header_of (question_text (net_of a) (net_of b) 0)
      ≡ some (record { variables = variables (net_of a) (net_of b); lines = length (question (net_of a) (net_of b)) })
  pub says : (n : ℕ) → n < length (question (net_of a) (net_of b))
      → line_of (question_text (net_of a) (net_of b) (suc n)) ≡ some (get_or (question (net_of a) (net_of b)) n no_line)
  pub named : Each (Named (variables (net_of a) (net_of b))) (question (net_of a) (net_of b))
  pub short : (n : ℕ) → n ≤ length (question (net_of a) (net_of b)) → length (question_text (net_of a) (net_of b) n) ≤ 254

abbrev pub Questions : Network → Network → Type 0
Questions a b = sound_record a ≡ true → sound_record b ≡ true → alike (net_of a) (net_of b) ≡ true → QuestionClaim a b
