-- What a text of the question says, read strictly: a line feed ends it, single spaces part its words, and each word has the exact form
-- of its place. A text of any other form says nothing. Nothing is proved here.
use Rattle.std.specs.Prelude.{cond, ◌&&◌, List, [], ◌∷◌, ℕ, zero, suc, eqb, ℤ, pos, neg_ℤ}
use Rattle.basics.specs.Library.{Option, some, none}
use Rattle.texts.specs.Texts.{parts, same_text, number}
use Rattle.question_theory.specs.Question.{Line, term}

-- ---- words

-- the words of a text's only line; none where there is no line feed at the end, or one before it
unfoldable pub words_of_lines : List (List ℕ) → List (List ℕ)
words_of_lines [] = []
words_of_lines (l ∷ []) = []
words_of_lines (l ∷ [] ∷ []) = parts 32 l
words_of_lines (l ∷ [] ∷ m ∷ ms) = []
words_of_lines (l ∷ (c ∷ cs) ∷ ms) = []

unfoldable pub words : List ℕ → List (List ℕ)
words text = words_of_lines (parts 10 text)

-- ---- numbers

abbrev pub positive_of : Option ℕ → Option ℤ
positive_of none = none
positive_of (some n) = some (pos n)

abbrev pub negative_of : Option ℕ → Option ℤ
negative_of none = none
negative_of (some n) = some (neg_ℤ (pos n))

-- a coefficient: `+` or `-`, and a number
unfoldable pub coefficient_of : List ℕ → Option ℤ
coefficient_of [] = none
coefficient_of (c ∷ cs) = cond (eqb c 43) (positive_of (number cs)) (cond (eqb c 45) (negative_of (number cs)) none)

-- a right side: a number, or `-` and a number
unfoldable pub right_of : List ℕ → Option ℤ
right_of [] = none
right_of (c ∷ cs) = cond (eqb c 45) (negative_of (number cs)) (positive_of (number (c ∷ cs)))

-- a variable: `x` and a number from 1 on, `x1` being variable 0
abbrev pub from_one : Option ℕ → Option ℕ
from_one none = none
from_one (some zero) = none
from_one (some (suc n)) = some n

unfoldable pub variable_of : List ℕ → Option ℕ
variable_of [] = none
variable_of (c ∷ cs) = cond (eqb c 120) (from_one (number cs)) none

-- ---- lines

-- a term in front of a line
abbrev pub with_term : Option ℤ → Option ℕ → Option Line → Option Line
with_term none v line = none
with_term (some z) none line = none
with_term (some z) (some v) none = none
with_term (some z) (some v) (some line) = some (record { terms = term v z ∷ line.terms; right = line.right })

-- the right side, and after it `;` and nothing more
unfoldable pub end_of_words : Option ℤ → List (List ℕ) → Option Line
end_of_words none ws = none
end_of_words (some z) [] = none
end_of_words (some z) (w ∷ []) = cond (same_text w (59 ∷ [])) (some (record { terms = []; right = z })) none
end_of_words (some z) (w ∷ x ∷ ws) = none

-- a coefficient and a variable, again and again, then `>=`, the right side and `;`
unfoldable pub line_of_words : List (List ℕ) → Option Line
line_of_words [] = none
line_of_words (w ∷ []) = none
line_of_words (w ∷ x ∷ ws) =
    cond (same_text w (62 ∷ 61 ∷ [])) (end_of_words (right_of x) ws) (with_term (coefficient_of w) (variable_of x) (line_of_words ws))

-- the line that a text says
unfoldable pub line_of : List ℕ → Option Line
line_of text = line_of_words (words text)

-- ---- the header

-- "the number of variables" and "the number of lines after it"
pub record Header : Type 0 where
  pub variables : ℕ
  pub lines : ℕ

abbrev pub header_with : Option ℕ → Option ℕ → Option Header
header_with none b = none
header_with (some a) none = none
header_with (some a) (some b) = some (record { variables = a; lines = b })

-- `*`, `#variable=`, a number, `#constraint=`, a number
unfoldable pub variable_mark : List ℕ
variable_mark = 35 ∷ 118 ∷ 97 ∷ 114 ∷ 105 ∷ 97 ∷ 98 ∷ 108 ∷ 101 ∷ 61 ∷ []

unfoldable pub constraint_mark : List ℕ
constraint_mark = 35 ∷ 99 ∷ 111 ∷ 110 ∷ 115 ∷ 116 ∷ 114 ∷ 97 ∷ 105 ∷ 110 ∷ 116 ∷ 61 ∷ []

unfoldable pub header_of_words : List (List ℕ) → Option Header
header_of_words [] = none
header_of_words (a ∷ []) = none
header_of_words (a ∷ b ∷ []) = none
header_of_words (a ∷ b ∷ c ∷ []) = none
header_of_words (a ∷ b ∷ c ∷ d ∷ []) = none
header_of_words (a ∷ b ∷ c ∷ d ∷ e ∷ []) =
    cond (same_text a (42 ∷ []) && (same_text b variable_mark && same_text d constraint_mark)) (header_with (number c) (number e)) none
header_of_words (a ∷ b ∷ c ∷ d ∷ e ∷ f ∷ ws) = none

-- the header that a text says
unfoldable pub header_of : List ℕ → Option Header
header_of text = header_of_words (words text)
