-- The length of a line's text: a line is as long as its parts. Assumes nothing.
use Rattle.std.specs.Prelude.{◌≡◌, List, [], ◌∷◌, ◌++◌, ℕ, suc, ◌+◌, ◌*◌, ◌^◌, ◌≤◌, ◌<◌, ℤ, pos, negsuc, nat_abs, length}
use Rattle.std.proofs.Common.{arith, length-append}
use Rattle.basics.specs.Lists.{Each}
use Rattle.texts.proofs.DecimalLaws.{decimal_short}
use Rattle.network.specs.Threshold.{Feed}
use Rattle.question_theory.specs.Question.{Line}
use Rattle.question_theory.specs.Text.{coefficient, right_side, variable_name, term_text, terms_text, relation_text, line_text}

-- ---- terms

-- the size of the coefficient has at most d digits, and the variable's number at most v
abbrev pub TermDigits : ℕ → ℕ → Feed → Type 0
TermDigits d v f = (nat_abs f.weight < 10 ^ d) × (f.signal + 1 < 10 ^ v)

term_short : (d v : ℕ) (f : Feed) → TermDigits (suc d) (suc v) f → length (term_text f) ≤ suc d + suc v + 4
unfolding term_text coefficient variable_name
term_short d v f h = simp length-append (omega (arith, decimal_short (nat_abs f.weight) d h.0, decimal_short (f.signal + 1) v h.1))

pub terms_short : (d v : ℕ) (fs : List Feed) → Each (TermDigits (suc d) (suc v)) fs → length (terms_text fs) ≤ length fs * (suc d + suc v + 4)
unfolding terms_text
terms_short d v [] h = omega arith
terms_short d v (f ∷ fs) h = simp length-append (omega (arith, term_short d v f h.0, terms_short d v fs h.1))

pub terms_append : (a b : List Feed) → length (terms_text (a ++ b)) ≡ length (terms_text a) + length (terms_text b)
unfolding terms_text
terms_append [] b = omega arith
terms_append (f ∷ a) b = simp length-append (omega (arith, terms_append a b))

-- ---- lines
pub right_short : (d : ℕ) (z : ℤ) → nat_abs z < 10 ^ suc d → length (right_side z) ≤ suc d + 1
unfolding right_side
right_short d (pos n) h = omega (arith, decimal_short n d h)
right_short d (negsuc n) h = omega (arith, decimal_short (suc n) d h)

pub line_length : (line : Line) → length (line_text line) ≡ length (terms_text line.terms) + length (right_side line.right) + 6
unfolding line_text relation_text
line_length line = simp length-append (omega arith)
