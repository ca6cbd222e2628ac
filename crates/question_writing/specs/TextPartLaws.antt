-- The texts of the question, part by part, as they are written. Assumes nothing.
use Rattle.std.specs.Prelude.{◌≡◌, refl, true, false, List, [], ◌∷◌, ◌++◌, ℕ, ◌+◌, ◌-◌, ◌≤◌, ◌<◌, ℤ, nat_abs, length, map, take, drop, get_or}
use Rattle.std.proofs.Common.{sym, ap, ◌∙◌, append_assoc, append-nil, arith, length-append}
use Rattle.std.specs.Int.Signed.{non_neg}
use Rattle.texts.specs.Texts.{decimal}
use Rattle.network.specs.Threshold.{Feed}
use Rattle.network.specs.Record.{feed_at, feeds_from}
use Rattle.question_theory.specs.Question.{Line, term}
use Rattle.question_theory.specs.Text.{coefficient, right_side, variable_name, term_text, terms_text, relation_text, line_text, variable_word}
use Rattle.question_theory.specs.Text.{constraint_word, header_text}
use Rattle.question_theory.proofs.TextLaws.{terms_append}
use Rattle.question_terms.specs.FeedLaws.{feeds_more, feeds_split}
use Rattle.question_terms.specs.declared.Term.{Term}
use Rattle.question_terms.specs.Terms.{term_in, no_term}
use Rattle.basics.specs.PlaceLaws.{map_last}
use Rattle.std.proofs.lemmas.List.{take_more, take-append-drop, map-append}

-- ---- signed numbers
pub coefficient_below : (z : ℤ) → non_neg z ≡ false → coefficient z ≡ 45 ∷ decimal (nat_abs z)
unfolding coefficient
coefficient_below z e = rw e

pub coefficient_above : (z : ℤ) → non_neg z ≡ true → coefficient z ≡ 43 ∷ decimal (nat_abs z)
unfolding coefficient
coefficient_above z e = rw e

pub right_below : (z : ℤ) → non_neg z ≡ false → right_side z ≡ 45 ∷ decimal (nat_abs z)
unfolding right_side
right_below z e = rw e

pub right_above : (z : ℤ) → non_neg z ≡ true → right_side z ≡ decimal (nat_abs z)
unfolding right_side
right_above z e = rw e

-- ---- terms

-- the coefficient, a space with the variable, and a space
pub term_parts : (v : ℕ) (z : ℤ) → (coefficient z ++ ((32 ∷ 120 ∷ []) ++ decimal (v + 1))) ++ (32 ∷ []) ≡ term_text (term v z)
unfolding term_text variable_name
term_parts v z = refl

pub term_length : (v : ℕ) (z : ℤ) → length (term_text (term v z)) ≡ length (coefficient z) + length (decimal (v + 1)) + 3
unfolding term_text variable_name
term_length v z = simp length-append (omega arith)

-- one term more
terms_end : (fs : List Feed) (f : Feed) → terms_text (fs ++ (f ∷ [])) ≡ terms_text fs ++ term_text f
unfolding terms_text
terms_end [] f = append-nil (term_text f)
terms_end (g ∷ fs) f = ap (λ (l : List ℕ). term_text g ++ l) (terms_end fs f) ∙ sym (append_assoc (term_text g) (terms_text fs) (term_text f))

-- the variables and the coefficients in lists of their own
module _ (vs : List ℕ) (cs : List ℤ) where
  pub terms_more : (i : ℕ) → terms_text (feeds_from vs cs 0 i) ++ term_text (feed_at vs cs i) ≡ terms_text (feeds_from vs cs 0 (i + 1))
  terms_more i = sym (ap terms_text (feeds_more vs cs i) ∙ terms_end (feeds_from vs cs 0 i) (feed_at vs cs i))

  -- a term has room where all terms have
  pub terms_room : (i n : ℕ) → i < n
      → length (terms_text (feeds_from vs cs 0 i)) + length (term_text (feed_at vs cs i)) ≤ length (terms_text (feeds_from vs cs 0 n))
  terms_room i n h =
      let e : n ≡ (i + 1) + (n - (i + 1)) = omega arith in
      omega (
        arith,
        length-append (terms_text (feeds_from vs cs 0 i)) (term_text (feed_at vs cs i)),
        ap length (terms_more i),
        ap (λ (k : ℕ). length (terms_text (feeds_from vs cs 0 k))) e,
        ap (λ (fs : List Feed). length (terms_text fs)) (feeds_split vs cs (i + 1) (n - (i + 1))),
        terms_append (feeds_from vs cs 0 (i + 1)) (feeds_from vs cs (0 + (i + 1)) (n - (i + 1))),
      )

-- a list of terms
module _ (ts : List Term) (i : ℕ) (h : i < length ts) where
  pub first_terms_more : terms_text (map term_in (take i ts)) ++ term_text (term_in (get_or ts i no_term)) ≡ terms_text (map term_in (take (i + 1) ts))
  first_terms_more = sym (ap (λ (l : List Term). terms_text (map term_in l)) (take_more ts i no_term h)
      ∙ ap terms_text (map_last term_in (take i ts) (get_or ts i no_term)) ∙ terms_end (map term_in (take i ts)) (term_in (get_or ts i no_term)))

  -- a term has room where all terms have
  pub first_terms_room : length (terms_text (map term_in (take i ts))) + length (term_text (term_in (get_or ts i no_term)))
      ≤ length (terms_text (map term_in ts))
  first_terms_room = omega (
    arith,
    length-append (terms_text (map term_in (take i ts))) (term_text (term_in (get_or ts i no_term))),
    ap length first_terms_more,
    ap (λ (l : List Term). length (terms_text (map term_in l))) (take-append-drop (i + 1) ts),
    ap (λ (fs : List Feed). length (terms_text fs)) (map-append term_in (take (i + 1) ts) (drop (i + 1) ts)),
    terms_append (map term_in (take (i + 1) ts)) (map term_in (drop (i + 1) ts)),
  )

-- ---- a line and the header
pub relation_parts : (z : ℤ) → ((62 ∷ 61 ∷ 32 ∷ []) ++ right_side z) ++ (32 ∷ 59 ∷ 10 ∷ []) ≡ relation_text z
unfolding relation_text
relation_parts z = refl

pub relation_length : (z : ℤ) → length (relation_text z) ≡ length (right_side z) + 6
unfolding relation_text
relation_length z = simp length-append (omega arith)

pub line_parts : (l : Line) → terms_text l.terms ++ relation_text l.right ≡ line_text l
unfolding line_text
line_parts l = refl

pub header_parts : (v c : ℕ) → ((variable_word ++ decimal v) ++ (constraint_word ++ decimal c)) ++ (10 ∷ []) ≡ header_text v c
unfolding header_text
header_parts v c = simp append_assoc

pub header_text_length : (v c : ℕ) → length (header_text v c) ≡ length (decimal v) + length (decimal c) + 28
unfolding header_text variable_word constraint_word
header_text_length v c = simp length-append (omega arith)
