-- The text of the question, in ASCII. Document 01, "The question": single spaces between, a line feed ends each line, "Coefficients
-- always carry a sign, and 0 is written `+0`; right sides carry a sign only below 0". Nothing is proved here.
use Rattle.std.specs.Prelude.{cond, List, [], ◌∷◌, ◌++◌, ℕ, zero, suc, ◌+◌, ℤ, nat_abs, pos, length, get_or}
use Rattle.basics.specs.Library.{non_neg}
use Rattle.texts.specs.Texts.{decimal}
use Rattle.network.specs.Threshold.{Feed, Net}
use Rattle.question_theory.specs.Question.{Line, question, variables}

-- `+` or `-`, and the size
unfoldable pub coefficient : ℤ → List ℕ
coefficient z = cond (non_neg z) 43 45 ∷ decimal (nat_abs z)

-- a sign only below 0
unfoldable pub right_side : ℤ → List ℕ
right_side z = cond (non_neg z) (decimal (nat_abs z)) (45 ∷ decimal (nat_abs z))

-- `x1` for variable 0
unfoldable pub variable_name : ℕ → List ℕ
variable_name v = 120 ∷ decimal (v + 1)

-- a coefficient, a space, the variable, a space
unfoldable pub term_text : Feed → List ℕ
term_text f = coefficient f.weight ++ (32 ∷ variable_name f.signal) ++ (32 ∷ [])

unfoldable pub terms_text : List Feed → List ℕ
terms_text [] = []
terms_text (f ∷ fs) = term_text f ++ terms_text fs

-- `>= `, the right side, ` ;` and a line feed
unfoldable pub relation_text : ℤ → List ℕ
relation_text z = (62 ∷ 61 ∷ 32 ∷ right_side z) ++ (32 ∷ 59 ∷ 10 ∷ [])

-- the terms, and what stands after them
unfoldable pub line_text : Line → List ℕ
line_text line = terms_text line.terms ++ relation_text line.right

-- `* #variable= ` and ` #constraint= `
unfoldable pub variable_word : List ℕ
variable_word = 42 ∷ 32 ∷ 35 ∷ 118 ∷ 97 ∷ 114 ∷ 105 ∷ 97 ∷ 98 ∷ 108 ∷ 101 ∷ 61 ∷ 32 ∷ []

unfoldable pub constraint_word : List ℕ
constraint_word = 32 ∷ 35 ∷ 99 ∷ 111 ∷ 110 ∷ 115 ∷ 116 ∷ 114 ∷ 97 ∷ 105 ∷ 110 ∷ 116 ∷ 61 ∷ 32 ∷ []

-- the header, with the number of variables and the number of lines after it
unfoldable pub header_text : ℕ → ℕ → List ℕ
header_text v c = variable_word ++ (decimal v ++ (constraint_word ++ (decimal c ++ (10 ∷ []))))

-- "line n, counted from 0": the header, then the lines of the question
unfoldable pub no_line : Line
no_line = record { terms = []; right = pos 0 }

unfoldable pub question_text : Net → Net → ℕ → List ℕ
question_text N M zero = header_text (variables N M) (length (question N M))
question_text N M (suc n) = line_text (get_or (question N M) n no_line)
