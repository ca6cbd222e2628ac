-- What a line's text says is the line, if its numbers have at most 20 digits, and what the header's text says are its two numbers; so
-- every text of the question of two sound networks says what was asked, and what is written has the question's solutions. Assumes
-- nothing.
use Rattle.std.specs.Prelude.{◌≡◌, refl, false, List, [], ◌∷◌, ◌++◌, ◌≢◌, ◌↔◌, ℕ, suc, ◌+◌, ◌^◌, ◌<◌, T, ℤ, pos, negsuc, nat_abs, length}
use Rattle.std.proofs.Common.{ap, ◌∙◌, subst, append_assoc, add-one, arith}
use Rattle.std.proofs.Math.Option.{Option, some}
use Rattle.std.proofs.Math.ListN.{get_or}
use Rattle.basics.specs.Lists.{Each}
use Rattle.basics.specs.ListLaws.{each_imp, each_get_or, each_append}
use Rattle.basics.specs.TestLaws.{eqb_no}
use Rattle.texts.specs.Texts.{decimal, prepend, parts, same_text, number}
use Rattle.texts.proofs.DecimalLaws.{Digit, decimal_digits, decimal_number, first_part, only_part}
use Rattle.network.specs.Threshold.{Feed, Net, Assignment}
use Rattle.network.specs.Sound.{Sound}
use Rattle.question_theory.specs.Question.{Line, holds, Solves, question, variables}
use Rattle.question_theory.specs.Text.{coefficient, right_side, variable_name, term_text, terms_text, relation_text, line_text, variable_word}
use Rattle.question_theory.specs.Text.{constraint_word, header_text, no_line, question_text}
use Rattle.question_theory.specs.Meaning.{words_of_lines, words, coefficient_of, right_of, variable_of, end_of_words, line_of_words, line_of}
use Rattle.question_theory.specs.Meaning.{variable_mark, constraint_mark, header_of_words, header_of}
use Rattle.question_theory.specs.Demand.{SolvesWritten, Decides, DecidesWritten}
use Rattle.question_theory.proofs.MemberLaws.{get_or_each}
use Rattle.question_theory.proofs.TextLaws.{TermDigits}
use Rattle.question_theory.proofs.SizeLaws.{ShortLine, few_variables, few_lines, question_narrow}

-- ---- a coefficient, a right side and a variable say their number
coefficient_says : (z : ℤ) → nat_abs z < 10 ^ 20 → coefficient_of (coefficient z) ≡ some z
unfolding coefficient_of coefficient
coefficient_says (pos n) h = rw (decimal_number n h)
coefficient_says (negsuc n) h = rw (decimal_number (suc n) h)

-- digits begin with no sign
digits_right : (ds : List ℕ) (n : ℕ) → Each Digit ds → number ds ≡ some n → right_of ds ≡ some (pos n)
unfolding right_of number
digits_right [] n h e = absurd (let z : ◌≡◌ {A = ℕ} 0 1 = cc in omega arith)
digits_right (d ∷ ds) n h e = rw (eqb_no d 45 (omega arith), e)

right_says : (z : ℤ) → nat_abs z < 10 ^ 20 → right_of (right_side z) ≡ some z
unfolding right_side
right_says (pos n) h = digits_right (decimal n) n (decimal_digits n) (decimal_number n h)
right_says (negsuc n) h = unfold right_of in rw (decimal_number (suc n) h)

variable_says : (v : ℕ) → v + 1 < 10 ^ 20 → variable_of (variable_name v) ≡ some v
unfolding variable_of variable_name
variable_says v h = rw (decimal_number (v + 1) h, add-one)

-- ---- words

-- c is no space and ends no line
abbrev NoSpace : ℕ → Type 0
NoSpace c = 32 < c

-- c ends no line
abbrev NoLineFeed : ℕ → Type 0
NoLineFeed c = c ≢ 10

solid_word : (w : List ℕ) → Each NoSpace w → Each (λ c. c ≢ 32) w
solid_word = each_imp NoSpace (λ c. c ≢ 32) λ c h. omega arith

first_word : (w rest : List ℕ) → Each NoSpace w → parts 32 (w ++ (32 ∷ rest)) ≡ w ∷ parts 32 rest
first_word w rest h = first_part 32 w rest (solid_word w h)

solid_inside : (w : List ℕ) → Each NoSpace w → Each NoLineFeed w
solid_inside = each_imp NoSpace NoLineFeed λ c h. omega arith

-- the words of a line that a line feed ends
line_words : (l : List ℕ) → Each NoLineFeed l → words (l ++ (10 ∷ [])) ≡ parts 32 l
unfolding words
line_words l h = rw (first_part 10 l [] h) (unfold parts words_of_lines in refl)

decimal_solid : (n : ℕ) → Each NoSpace (decimal n)
decimal_solid n = each_imp Digit NoSpace (λ c h. omega arith) (decimal n) (decimal_digits n)

coefficient_solid : (z : ℤ) → Each NoSpace (coefficient z)
unfolding coefficient
coefficient_solid (pos n) = (omega arith, decimal_solid n)
coefficient_solid (negsuc n) = (omega arith, decimal_solid (suc n))

right_solid : (z : ℤ) → Each NoSpace (right_side z)
unfolding right_side
right_solid (pos n) = decimal_solid n
right_solid (negsuc n) = (omega arith, decimal_solid (suc n))

variable_solid : (v : ℕ) → Each NoSpace (variable_name v)
unfolding variable_name
variable_solid v = (omega arith, decimal_solid (v + 1))

-- ---- terms
term_inside : (f : Feed) → Each NoLineFeed (term_text f)
unfolding term_text
term_inside f = each_append NoLineFeed (coefficient f.weight ++ (32 ∷ variable_name f.signal)) (32 ∷ [])
    (each_append NoLineFeed (coefficient f.weight) (32 ∷ variable_name f.signal) (solid_inside (coefficient f.weight) (coefficient_solid f.weight))
    (omega arith, solid_inside (variable_name f.signal) (variable_solid f.signal)))
    (omega arith, tt)

terms_inside : (fs : List Feed) → Each NoLineFeed (terms_text fs)
unfolding terms_text
terms_inside [] = tt
terms_inside (f ∷ fs) = each_append NoLineFeed (term_text f) (terms_text fs) (term_inside f) (terms_inside fs)

term_body : (f : Feed) (rest : List ℕ) → term_text f ++ rest ≡ coefficient f.weight ++ (32 ∷ (variable_name f.signal ++ (32 ∷ rest)))
unfolding term_text
term_body f rest = simp append_assoc

term_words : (f : Feed) (rest : List ℕ) → parts 32 (term_text f ++ rest) ≡ coefficient f.weight ∷ variable_name f.signal ∷ parts 32 rest
term_words f rest = ap (parts 32) (term_body f rest)
    ∙ first_word (coefficient f.weight) (variable_name f.signal ++ (32 ∷ rest)) (coefficient_solid f.weight)
    ∙ ap {B = List (List ℕ)} (λ ws. coefficient f.weight ∷ ws) (first_word (variable_name f.signal) rest (variable_solid f.signal))

no_relation : (z : ℤ) → same_text (coefficient z) (62 ∷ 61 ∷ []) ≡ false
unfolding same_text coefficient
no_relation (pos n) = refl
no_relation (negsuc n) = refl

-- a term in front of what says a line
term_says : (f : Feed) (ws : List (List ℕ)) (line : Line) → TermDigits 20 20 f → line_of_words ws ≡ some line
    → line_of_words (coefficient f.weight ∷ variable_name f.signal ∷ ws) ≡ some (record { terms = f ∷ line.terms; right = line.right })
unfolding line_of_words
term_says f ws line h e = rw (no_relation f.weight, coefficient_says f.weight h.0, variable_says f.signal h.1, e)

terms_say : (fs : List Feed) (end : List ℕ) (z : ℤ) → Each (TermDigits 20 20) fs → line_of_words (parts 32 end) ≡ some (record { terms = []; right = z })
    → line_of_words (parts 32 (terms_text fs ++ end)) ≡ some (record { terms = fs; right = z })
unfolding terms_text
terms_say [] end z h e = e
terms_say (f ∷ fs) end z h e = ap (λ (cs : List ℕ). line_of_words (parts 32 cs)) (append_assoc (term_text f) (terms_text fs) end)
    ∙ ap line_of_words (term_words f (terms_text fs ++ end))
    ∙ term_says f (parts 32 (terms_text fs ++ end)) (record { terms = fs; right = z }) h.0 (terms_say fs end z h.1 e)

-- ---- a line

-- `>= `, the right side and ` ;`
abbrev end_text : ℤ → List ℕ
end_text z = (62 ∷ 61 ∷ 32 ∷ right_side z) ++ (32 ∷ 59 ∷ [])

end_inside : (z : ℤ) → Each NoLineFeed (end_text z)
end_inside z = each_append NoLineFeed (62 ∷ 61 ∷ 32 ∷ right_side z) (32 ∷ 59 ∷ [])
    (omega arith, (omega arith, (omega arith, solid_inside (right_side z) (right_solid z)))) (omega arith)

end_says : (z : ℤ) → nat_abs z < 10 ^ 20 → line_of_words (parts 32 (end_text z)) ≡ some (record { terms = []; right = z })
unfolding line_of_words end_of_words parts prepend same_text
end_says z h = rw (first_word (right_side z) (59 ∷ []) (right_solid z), right_says z h)

-- the terms and the end, and a line feed
line_body : (line : Line) → line_text line ≡ (terms_text line.terms ++ end_text line.right) ++ (10 ∷ [])
unfolding line_text relation_text
line_body line = simp append_assoc

-- what a line's text says is the line
text_says : (line : Line) → Each (TermDigits 20 20) line.terms → nat_abs line.right < 10 ^ 20 → line_of (line_text line) ≡ some line
unfolding line_of
text_says line h k =
    let inside = each_append NoLineFeed (terms_text line.terms) (end_text line.right) (terms_inside line.terms) (end_inside line.right) in
    ap line_of_words (ap words (line_body line) ∙ line_words (terms_text line.terms ++ end_text line.right) inside)
    ∙ terms_say line.terms (end_text line.right) line.right h (end_says line.right k)

-- ---- the header
header_body : (v c : ℕ) → header_text v c ≡ (variable_word ++ (decimal v ++ (constraint_word ++ decimal c))) ++ (10 ∷ [])
unfolding header_text
header_body v c = simp append_assoc

header_inside : (v c : ℕ) → Each NoLineFeed (variable_word ++ (decimal v ++ (constraint_word ++ decimal c)))
header_inside v c = each_append NoLineFeed variable_word _ (unfold variable_word in omega arith)
    (each_append NoLineFeed (decimal v) _ (solid_inside (decimal v) (decimal_solid v))
    (each_append NoLineFeed constraint_word (decimal c) (unfold constraint_word in omega arith) (solid_inside (decimal c) (decimal_solid c))))

-- its five words
header_words : (v c : ℕ) → parts 32 (variable_word ++ (decimal v ++ (constraint_word ++ decimal c)))
    ≡ (42 ∷ []) ∷ variable_mark ∷ decimal v ∷ constraint_mark ∷ decimal c ∷ []
unfolding variable_word constraint_word variable_mark constraint_mark parts prepend
header_words v c = rw (first_word (decimal v) _ (decimal_solid v), only_part 32 (decimal c) (solid_word (decimal c) (decimal_solid c)))

-- what the header's text says are its two numbers
header_says : (v c : ℕ) → v < 10 ^ 20 → c < 10 ^ 20 → header_of (header_text v c) ≡ some (record { variables = v; lines = c })
unfolding header_of
header_says v c h k = ap header_of_words (ap words (header_body v c) ∙ line_words _ (header_inside v c) ∙ header_words v c) ∙ said
  where
    said : header_of_words ((42 ∷ []) ∷ variable_mark ∷ decimal v ∷ constraint_mark ∷ decimal c ∷ []) ≡ some (record { variables = v; lines = c })
    said = unfold header_of_words same_text variable_mark constraint_mark in rw (decimal_number v h, decimal_number c k)

-- ---- the texts of the question
within_all : (fs : List Feed) → Each (TermDigits 8 3) fs → Each (TermDigits 20 20) fs
within_all = each_imp (TermDigits 8 3) (TermDigits 20 20) λ f h. omega arith

module _ (N M : Net) (sn : Sound N) (sm : Sound M) (inputs : N.inputs ≡ M.inputs) where
  pub question_text_says : (n : ℕ) → n < length (question N M) → line_of (question_text N M (suc n)) ≡ some (get_or (question N M) n no_line)
  unfolding question_text
  question_text_says n h =
      let line = get_or (question N M) n no_line in
      let s = each_get_or ShortLine (question N M) no_line (question_narrow N M sn sm inputs) n h in
      text_says line (within_all line.terms s.numbers) (omega arith)

  pub question_header_says : length N.outputs ≡ length M.outputs
      → header_of (question_text N M 0) ≡ some (record { variables = variables N M; lines = length (question N M) })
  unfolding question_text
  question_header_says outputs = header_says (variables N M) (length (question N M))
      (omega (arith, few_variables N M sn sm inputs)) (omega (arith, few_lines N M sn sm inputs outputs))

  -- an assignment solves what is written exactly where it solves the question
  pub solves_written : (ρ : Assignment) → SolvesWritten ρ N M ↔ Solves ρ (question N M)
  solves_written ρ = (
    λ w. get_or_each P (question N M) no_line λ n h. let t = w n h in subst P (said t.1 (question_text_says n h)) t.2,
    λ s n h. (get_or (question N M) n no_line, question_text_says n h, each_get_or P (question N M) no_line s n h),
  )
    where
      P : Line → Type 0
      P line = T (holds ρ line)

      said : {o : Option Line} {a b : Line} → o ≡ some a → o ≡ some b → a ≡ b
      said e f = cc

  -- what is written decides where the question does
  pub decides_written : Decides N M → DecidesWritten N M
  decides_written d = (
    λ s. d.0 (s.0, (solves_written s.0).0 s.1),
    λ x. let s = d.1 x in (s.0, (solves_written s.0).1 s.1),
  )
