-- The sheet, read back, says its entries and their total. Assumes nothing.
use Rattle.std.specs.Prelude.{◌≡◌, true, false, ◌≢◌, ℕ, suc, ◌+◌, ◌^◌, ◌≤◌, ◌<◌, eqb, length}
use Rattle.std.proofs.Math.Path.{refl}
use Rattle.std.proofs.Common.{ap, ◌∙◌, arith}
use mathlib.Core.List.{List, [], ◌∷◌, ◌++◌, map, append_assoc}
use Rattle.std.proofs.Math.Option.{some}
use Rattle.basics.specs.Lists.{Each, all, other}
use Rattle.basics.specs.ListLaws.{each_imp, each_append, all_other}
use Rattle.basics.specs.TestLaws.{eqb_no, and_false_left}
use Rattle.basics.specs.Refusals.{Answer, accepted, refused}
use Rattle.texts.specs.Texts.{decimal, parts, same_text}
use Rattle.texts.proofs.DecimalLaws.{Digit, decimal_digits, decimal_number, first_part, only_part}
use Rattle.alley_theory.specs.Alley.{Size, size_counted, total_size, refused_word, total_word, size_text, lane_text, lines_text, total_text}
use Rattle.alley_theory.specs.ReadBack.{sized, refusal, SheetLine, lane_said, totals, total_name, refused_name, line_of_three, sheet_line_of_words}
use Rattle.alley_theory.specs.ReadBack.{sheet_line_of, closed}
use Rattle.alley_theory.specs.ReadBack.{said_by, with_lane, read_back, said_gates, said_cost, line_for, lines_for}
use Rattle.alley_theory.specs.Claims.{sum_of}
use Rattle.alley_theory.proofs.EntryLaws.{EntryInRange}

-- ---- words

-- digits are no letters and no separator
abbrev NotSeparator : ℕ → ℕ → Type 0
NotSeparator separator c = c ≢ separator

decimal_plain : (separator n : ℕ) → separator < 48 → Each (NotSeparator separator) (decimal n)
decimal_plain separator n h = each_imp Digit (NotSeparator separator) (λ c d. omega arith) (decimal n) (decimal_digits n)

digits_other : (ds : List ℕ) (x : ℕ) (xs : List ℕ) → 58 ≤ x → Each Digit ds → same_text ds (x ∷ xs) ≡ false
unfolding same_text
digits_other [] x xs h k = refl
digits_other (d ∷ ds) x xs h k = and_false_left (eqb d x) (same_text ds xs) (eqb_no d x (omega arith))

decimal_total : (n : ℕ) → same_text (decimal n) total_name ≡ false
unfolding total_name
decimal_total n = digits_other (decimal n) 116 _ (omega arith) (decimal_digits n)

decimal_refused : (n : ℕ) → same_text (decimal n) refused_name ≡ false
unfolding refused_name
decimal_refused n = digits_other (decimal n) 114 _ (omega arith) (decimal_digits n)

-- letters are no separators
refused_plain : Each (NotSeparator 32) refused_name × Each (NotSeparator 10) refused_name
unfolding refused_name all other
refused_plain = (all_other 32 refused_name tt, all_other 10 refused_name tt)

total_plain : Each (NotSeparator 32) total_name × Each (NotSeparator 10) total_name
unfolding total_name all other
total_plain = (all_other 32 total_name tt, all_other 10 total_name tt)

-- three words, of which none has a space
words_three : (a b c : List ℕ) → Each (NotSeparator 32) a → Each (NotSeparator 32) b → Each (NotSeparator 32) c
    → sheet_line_of (a ++ (32 ∷ b ++ (32 ∷ c))) ≡ line_of_three a b c
unfolding sheet_line_of sheet_line_of_words
words_three a b c h k l = rw (first_part 32 a (b ++ (32 ∷ c)) h, first_part 32 b c k, only_part 32 c l)

-- ---- what the lines say

-- the line without its line feed
content : ℕ → Answer Size → List ℕ
content p (accepted f) = decimal p ++ (32 ∷ decimal f.gates ++ (32 ∷ decimal f.cost))
content p (refused k) = decimal p ++ (32 ∷ refused_name ++ (32 ∷ decimal k))

content_text : (p : ℕ) (a : Answer Size) → lane_text p a ≡ content p a ++ (10 ∷ [])
unfolding lane_text content size_text refused_word refused_name
content_text p (accepted f) = simp append_assoc
content_text p (refused k) = simp append_assoc

content_plain : (p : ℕ) (a : Answer Size) → Each (NotSeparator 10) (content p a)
unfolding content
content_plain p (accepted f) =
    each_append (NotSeparator 10) (decimal p) _ (decimal_plain 10 p (omega arith)) (
      omega arith,
      each_append (NotSeparator 10) (decimal f.gates) _ (decimal_plain 10 f.gates (omega arith)) (omega arith, decimal_plain 10 f.cost (omega arith)),
    )
content_plain p (refused k) =
    each_append (NotSeparator 10) (decimal p) _ (decimal_plain 10 p (omega arith)) (
      omega arith,
      each_append (NotSeparator 10) refused_name _ refused_plain.1 (omega arith, decimal_plain 10 k (omega arith)),
    )

-- position, gates, cost
size_said : (p g c : ℕ) → p < 10 ^ 20 → g < 10 ^ 20 → c < 10 ^ 20 → line_of_three (decimal p) (decimal g) (decimal c) ≡ lane_said (sized p g c)
unfolding line_of_three
size_said p g c h k l = rw (decimal_total p, decimal_refused g, decimal_number p h, decimal_number g k, decimal_number c l)

same_refused : same_text refused_name refused_name ≡ true
unfolding same_text refused_name
same_refused = refl

same_total : same_text total_name total_name ≡ true
unfolding same_text total_name
same_total = refl

refusal_said : (p k : ℕ) → p < 10 ^ 20 → k < 10 ^ 20 → line_of_three (decimal p) refused_name (decimal k) ≡ lane_said (refusal p k)
unfolding line_of_three
refusal_said p k h l = rw (decimal_total p, same_refused, decimal_number p h, decimal_number k l)

total_said : (g c : ℕ) → g < 10 ^ 20 → c < 10 ^ 20 → line_of_three total_name (decimal g) (decimal c) ≡ totals g c
unfolding line_of_three
total_said g c h k = rw (same_total, decimal_number g h, decimal_number c k)

content_said : (p : ℕ) (a : Answer Size) → p < 10 ^ 20 → EntryInRange a → sheet_line_of (content p a) ≡ lane_said (line_for p a)
unfolding content line_for
content_said p (accepted f) h s =
    words_three (decimal p) (decimal f.gates) (decimal f.cost) (decimal_plain 32 p (omega arith)) (decimal_plain 32 f.gates (omega arith))
    (decimal_plain 32 f.cost (omega arith))
    ∙ size_said p f.gates f.cost h (omega (arith, s.small.0)) (omega (arith, s.small.1))
content_said p (refused k) h s =
    words_three (decimal p) refused_name (decimal k) (decimal_plain 32 p (omega arith)) refused_plain.0 (decimal_plain 32 k (omega arith))
    ∙ refusal_said p k h (omega (arith, s.small.1))

-- ---- the sheet

-- a lane's line in front
line_back : (p : ℕ) (a : Answer Size) (text : List ℕ) → p < 10 ^ 20 → EntryInRange a → read_back (lane_text p a ++ text) ≡ with_lane (line_for p a) (read_back text)
unfolding read_back said_by
line_back p a text h s =
    ap (λ (l : List ℕ). said_by (map sheet_line_of (parts 10 l))) (ap (λ (l : List ℕ). l ++ text) (content_text p a) ∙ append_assoc (content p a) (10 ∷ []) text)
    ∙ ap (λ (ls : List (List ℕ)). said_by (map sheet_line_of ls)) (first_part 10 (content p a) text (content_plain p a))
    ∙ ap (λ (l : SheetLine). said_by (l ∷ map sheet_line_of (parts 10 text))) (content_said p a h s)

-- the total's line at the end
total_back : (f : Size) → f.gates < 10 ^ 20 → f.cost < 10 ^ 20 → read_back (total_text f) ≡ some (record { lanes = []; gates = f.gates; cost = f.cost })
unfolding read_back said_by
total_back f h k =
    ap (λ (l : List ℕ). said_by (map sheet_line_of (parts 10 l))) text_is
    ∙ ap (λ (ls : List (List ℕ)). said_by (map sheet_line_of ls)) (first_part 10 body [] body_plain)
    ∙ ap (λ (l : SheetLine). said_by (l ∷ map sheet_line_of (parts 10 [])))
    (words_three total_name (decimal f.gates) (decimal f.cost) total_plain.0 (decimal_plain 32 f.gates (omega arith))
    (decimal_plain 32 f.cost (omega arith)) ∙ total_said f.gates f.cost h k)
    ∙ last
  where
    body : List ℕ
    body = total_name ++ (32 ∷ decimal f.gates ++ (32 ∷ decimal f.cost))

    text_is : total_text f ≡ body ++ (10 ∷ [])
    text_is = unfold total_text total_word total_name size_text in simp append_assoc

    body_plain : Each (NotSeparator 10) body
    body_plain = each_append (NotSeparator 10) total_name _ total_plain.1 (
      omega arith,
      each_append (NotSeparator 10) (decimal f.gates) _ (decimal_plain 10 f.gates (omega arith)) (omega arith, decimal_plain 10 f.cost (omega arith)),
    )

    last : said_by (totals f.gates f.cost ∷ map sheet_line_of (parts 10 [])) ≡ some (record { lanes = []; gates = f.gates; cost = f.cost })
    last = unfold parts sheet_line_of sheet_line_of_words closed in refl

-- every line
pub sheet_back : (p : ℕ) (es : List (Answer Size)) (f : Size) → p + length es < 10 ^ 20 → Each EntryInRange es → f.gates < 10 ^ 20 → f.cost < 10 ^ 20
    → read_back (lines_text p es ++ total_text f) ≡ some (record { lanes = lines_for p es; gates = f.gates; cost = f.cost })
unfolding lines_text lines_for
sheet_back p [] f h s g c = total_back f g c
sheet_back p (e ∷ es) f h s g c =
    ap read_back (append_assoc (lane_text p e) (lines_text (suc p) es) (total_text f))
    ∙ line_back p e (lines_text (suc p) es ++ total_text f) (omega arith) s.0
    ∙ ap (with_lane (line_for p e)) (sheet_back (suc p) es f (omega arith) s.1 g c)

-- the sums of what the lines say
line_gates : (p : ℕ) (a : Answer Size) → said_gates (line_for p a) ≡ (size_counted a).gates
unfolding said_gates line_for size_counted
line_gates p (accepted f) = refl
line_gates p (refused k) = refl

line_cost : (p : ℕ) (a : Answer Size) → said_cost (line_for p a) ≡ (size_counted a).cost
unfolding said_cost line_for size_counted
line_cost p (accepted f) = refl
line_cost p (refused k) = refl

pub lines_gates : (p : ℕ) (es : List (Answer Size)) → (total_size es).gates ≡ sum_of (map said_gates (lines_for p es))
unfolding total_size lines_for sum_of
lines_gates p [] = refl
lines_gates p (e ∷ es) = omega (arith, line_gates p e, lines_gates (suc p) es)

pub lines_cost : (p : ℕ) (es : List (Answer Size)) → (total_size es).cost ≡ sum_of (map said_cost (lines_for p es))
unfolding total_size lines_for sum_of
lines_cost p [] = refl
lines_cost p (e ∷ es) = omega (arith, line_cost p e, lines_cost (suc p) es)
