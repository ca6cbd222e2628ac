-- How large the numbers in the question's lines are, that the header counts every variable in them, and that none of the texts is longer
-- than 254 bytes. Assumes nothing.
use Rattle.std.specs.Prelude.{◌≡◌, true, false, cond, ltb, ℤ, negsuc, ◌+ℤ◌, ◌-ℤ◌, length}
use Rattle.std.proofs.Math.Path.{refl}
use Rattle.std.proofs.Common.{ap}
use mathlib.Core.List.{List, [], ◌∷◌, ◌++◌, map}
use Prim.Native.Nat.{ℕ, zero, suc, ◌+◌, ◌*◌, ◌^◌, ◌≤◌, ◌<◌}
use native.Mathlib.Omega.{arith}
use Rattle.std.proofs.Math.IntN.{pos, nat_abs}
use Rattle.std.specs.Int.Signed.{non_neg}
use Rattle.std.proofs.Math.ListN.{length-append, length-map}
use Rattle.basics.specs.Lists.{range, Each}
use Rattle.basics.specs.ListLaws.{each_imp, each_get_or, length_range}
use Rattle.basics.specs.SizeLaws.{size_neg, size_add, size_sub}
use Rattle.texts.proofs.DecimalLaws.{decimal_short}
use Rattle.network.specs.Threshold.{Feed, negated, Gate, Net}
use Rattle.network.specs.Limits.{scale, signals_of}
use Rattle.network.specs.Sound.{GateOk, GatesOk, Has, Sound}
use Rattle.network.specs.LimitLaws.{rise_below, gate_sizes}
use Rattle.question_theory.specs.Question.{Line, most, least, term, upper, lower, second_variable, over_gate, gate_lines}
use Rattle.question_theory.specs.Question.{some_line, not_both_line, output_lines, last_line, first_difference, question, variables}
use Rattle.question_theory.specs.Text.{terms_text, line_text, no_line, variable_word, constraint_word, header_text, question_text}
use Rattle.question_theory.specs.Demand.{Named}
use Rattle.question_theory.specs.Question.{second_of, first_lines, second_lines, pair_lines, last_of}
use Rattle.question_theory.proofs.MemberLaws.{each_append, each_both, each_map, map_each, each_range}
use Rattle.question_theory.proofs.LineLaws.{question_is, question_length}
use Rattle.question_theory.proofs.TextLaws.{TermDigits, terms_short, terms_append, right_short, line_length}

-- ---- the numbers of a gate
part_size : (w : ℤ) → (nat_abs (cond (non_neg w) w (pos 0)) ≤ nat_abs w) × (nat_abs (cond (non_neg w) (pos 0) w) ≤ nat_abs w)
part_size (pos n) = omega arith
part_size (negsuc n) = omega arith

-- M and m
pub most_size : (fs : List Feed) → Each (λ f. nat_abs f.weight ≤ scale) fs → nat_abs (most fs) ≤ length fs * scale
unfolding most
most_size [] h = omega arith
most_size (f ∷ fs) h = omega (arith, size_add (cond (non_neg f.weight) f.weight (pos 0)) (most fs), (part_size f.weight).0, most_size fs h.1)

pub least_size : (fs : List Feed) → Each (λ f. nat_abs f.weight ≤ scale) fs → nat_abs (least fs) ≤ length fs * scale
unfolding least
least_size [] h = omega arith
least_size (f ∷ fs) h = omega (arith, size_add (cond (non_neg f.weight) (pos 0) f.weight) (least fs), (part_size f.weight).1, least_size fs h.1)

-- ---- a line whose numbers and whose text are short
pub record ShortLine (line : Line) : Type 0 where
  pub numbers : Each (TermDigits 8 3) line.terms
  pub side : nat_abs line.right < 10 ^ 8
  pub short : length (line_text line) ≤ 254

-- such a line over the first n variables
record LineOver (n : ℕ) (line : Line) : Type 0 where
  named : Named n line
  narrow : ShortLine line

-- a gate over the first n variables, within the limits
record GateOnScale (n : ℕ) (g : Gate) : Type 0 where
  few : length g.feeds ≤ 16
  threshold_small : nat_abs g.threshold ≤ scale
  sizes : Each (λ f. nat_abs f.weight ≤ scale) g.feeds
  named : Each (λ f. f.signal < n) g.feeds

-- the size of the coefficient has at most d digits, and the variable is one of the first n
abbrev TermInRange : ℕ → ℕ → Feed → Type 0
TermInRange d n f = (nat_abs f.weight < 10 ^ d) × (f.signal < n)

module _ (n : ℕ) (few : n < 1000) where
  -- at most 16 terms and one more
  over_of : (line : Line) (fs : List Feed) (f : Feed) → line.terms ≡ fs ++ (f ∷ []) → length fs ≤ 16 → Each (TermInRange 7 n) fs → TermInRange 8 n f
      → nat_abs line.right < 10 ^ 8 → LineOver n line
  over_of line fs f e l h k r = record {
    named = rw e (each_append (λ t. t.signal < n) fs (f ∷ []) (each_imp (TermInRange 7 n) (λ t. t.signal < n) (λ t j. j.1) fs h) (k.1, tt));
    narrow = record {
      numbers = rw e (each_append (TermDigits 8 3) fs (f ∷ []) (each_imp (TermInRange 7 n) (TermDigits 8 3) (λ t j. omega arith) fs h) (omega arith, tt));
      side = r;
      short = omega (arith, line_length line, ap length (ap terms_text e), terms_append fs (f ∷ []), before, own, right_short 7 line.right r);
    };
  }
    where
      before : length (terms_text fs) ≤ length fs * 14
      before = terms_short 6 2 fs (each_imp (TermInRange 7 n) (TermDigits 7 3) (λ t j. omega arith) fs h)

      own : length (terms_text (f ∷ [])) ≤ 15
      own = omega (arith, terms_short 7 2 (f ∷ []) (omega arith, tt))

  -- ---- the lines of gates
  feeds_small : (g : Gate) → GateOnScale n g → Each (TermInRange 7 n) g.feeds
  feeds_small g s = each_imp (λ f. (nat_abs f.weight ≤ scale) × (f.signal < n)) (TermInRange 7 n) (λ f h. omega arith) g.feeds
      (each_both (λ f. nat_abs f.weight ≤ scale) (λ f. f.signal < n) g.feeds s.sizes s.named)

  upper_over : (y : ℕ) (g : Gate) → y < n → GateOnScale n g → LineOver n (upper y g)
  unfolding upper negated
  upper_over y g h s = over_of (upper y g) (map negated g.feeds) (term y (most g.feeds -ℤ g.threshold +ℤ pos 1)) refl
      (omega (arith, length-map g.feeds negated))
      (each_map (TermInRange 7 n) negated g.feeds (each_imp (TermInRange 7 n) (λ f. TermInRange 7 n (negated f)) minus_small g.feeds (feeds_small g s)))
      (omega (arith, most_size g.feeds s.sizes, size_sub (most g.feeds) g.threshold, size_add (most g.feeds -ℤ g.threshold) (pos 1)))
      (omega (arith, size_sub (pos 1) g.threshold))
    where
      minus_small : (f : Feed) → TermInRange 7 n f → TermInRange 7 n (negated f)
      minus_small f k = omega (arith, size_neg f.weight)

  lower_over : (y : ℕ) (g : Gate) → y < n → GateOnScale n g → LineOver n (lower y g)
  unfolding lower
  lower_over y g h s = over_of (lower y g) g.feeds (term y (least g.feeds -ℤ g.threshold)) refl s.few (feeds_small g s)
      (omega (arith, least_size g.feeds s.sizes, size_sub (least g.feeds) g.threshold))
      (omega (arith, least_size g.feeds s.sizes))

  over_scaled : (φ : ℕ → ℕ) (own : ℕ) (g : Gate) → GateOk own g → ((s : ℕ) → s < own → φ s < n) → GateOnScale n (over_gate φ g)
  unfolding over_gate signals_of
  over_scaled φ own g o h = let z = gate_sizes g o.scaled in record {
    few = omega (arith, length-map g.feeds over);
    threshold_small = z.0;
    sizes = each_map (λ f. nat_abs f.weight ≤ scale) over g.feeds z.1;
    named = each_map (λ f. f.signal < n) over g.feeds (each_imp (λ f. f.signal < own) (λ f. φ f.signal < n) (λ f k. h f.signal k) g.feeds
        (map_each (λ s. s < own) (λ f. f.signal) g.feeds (rise_below 0 own (signals_of g.feeds) o.rise)));
  }
    where
      over : Feed → Feed
      over f = term (φ f.signal) f.weight

  gates_over : (φ : ℕ → ℕ) (own : ℕ) (gs : List Gate) → GatesOk own gs → ((s : ℕ) → s < own + length gs → φ s < n) → Each (LineOver n) (gate_lines φ own gs)
  unfolding gate_lines
  gates_over φ own [] o h = tt
  gates_over φ own (g ∷ gs) o h =
      let s = over_scaled φ own g o.0 (λ s k. h s (omega arith)) in
      let y : φ own < n = h own (omega arith) in
      (upper_over (φ own) (over_gate φ g) y s, (lower_over (φ own) (over_gate φ g) y s, gates_over φ (suc own) gs o.1 (λ s k. h s (omega arith))))

  -- ---- the lines of outputs and the last line
  pair_over : (p q d : ℕ) → p < n → q < n → d < n → LineOver n (some_line p q d) × LineOver n (not_both_line p q d)
  unfolding some_line not_both_line
  pair_over p q d hp hq hd = (
    over_of (some_line p q d) (term p (pos 1) ∷ term q (pos 1) ∷ []) (term d (negsuc 0)) refl (omega arith) (omega arith) (omega arith) (omega arith),
    over_of (not_both_line p q d) (term p (negsuc 0) ∷ term q (negsuc 0) ∷ []) (term d (negsuc 0)) refl (omega arith) (omega arith) (omega arith) (omega arith),
  )

  outputs_over : (ps qs : List ℕ) (d : ℕ) → Each (λ p. p < n) ps → Each (λ q. q < n) qs → d + length ps ≤ n → Each (LineOver n) (output_lines ps qs d)
  unfolding output_lines
  outputs_over [] qs d hp hq hd = tt
  outputs_over (p ∷ ps) [] d hp hq hd = tt
  outputs_over (p ∷ ps) (q ∷ qs) d hp hq hd = let o = pair_over p q d hp.0 hq.0 (omega arith) in
      (o.0, (o.1, outputs_over ps qs (suc d) hp.1 hq.1 (omega arith)))

  last_over : (d k : ℕ) → k ≤ 16 → d + k ≤ n → LineOver n (last_line d k)
  unfolding last_line
  last_over d k h l = record {
    named = each_imp (TermInRange 1 n) (λ t. t.signal < n) (λ t j. j.1) (last_line d k).terms small;
    narrow = record {
      numbers = each_imp (TermInRange 1 n) (TermDigits 8 3) (λ t j. omega arith) (last_line d k).terms small;
      side = omega arith;
      short = omega (arith, line_length (last_line d k), terms_length, right_short 0 (pos 1) (omega arith));
    };
  }
    where
      small : Each (TermInRange 1 n) (last_line d k).terms
      small = each_map (TermInRange 1 n) (λ v. term v (pos 1)) (range d k) (each_range (λ v. TermInRange 1 n (term v (pos 1))) d k λ i j. omega arith)

      terms_length : length (terms_text (last_line d k).terms) ≤ k * 8
      terms_length = omega (
        arith,
        length-map (range d k) (λ v. term v (pos 1)),
        length_range d k,
        terms_short 0 2 (last_line d k).terms (each_imp (TermInRange 1 n) (TermDigits 1 3) (λ t j. omega arith) (last_line d k).terms small),
      )

-- ---- every line of the question
second_most : (i g s : ℕ) → second_variable i g s ≤ s + g
unfolding second_variable
second_most i g s = elim (ltb s i) as (λ b. cond b s (s + g) ≤ s + g) [ true ↦ omega arith | false ↦ omega arith ]

module _ (N M : Net) (sn : Sound N) (sm : Sound M) (same : N.inputs ≡ M.inputs) where
  pub few_variables : variables N M < 1000
  unfolding variables first_difference
  few_variables = omega arith

  second_below : (s : ℕ) → s < M.inputs + length M.gates → second_of N s < variables N M
  unfolding variables first_difference
  second_below s h = omega (arith, second_most N.inputs (length N.gates) s)

  first_over : Each (LineOver (variables N M)) (first_lines N)
  unfolding first_lines variables first_difference
  first_over = gates_over (variables N M) few_variables (λ s. s) N.inputs N.gates sn.all_gates λ s h. omega arith

  second_over : Each (LineOver (variables N M)) (second_lines N M)
  unfolding second_lines
  second_over = gates_over (variables N M) few_variables (second_of N) M.inputs M.gates sm.all_gates second_below

  pairs_over : Each (LineOver (variables N M)) (pair_lines N M)
  unfolding pair_lines variables first_difference
  pairs_over = outputs_over (variables N M) few_variables N.outputs (map (second_of N) M.outputs) (first_difference N M)
      (each_imp (Has N) (λ p. p < variables N M) (λ p h. omega arith) N.outputs sn.all_outputs)
      (each_map (λ q. q < variables N M) (second_of N) M.outputs
      (each_imp (Has M) (λ q. second_of N q < variables N M) (λ q h. second_below q h.1) M.outputs sm.all_outputs))
      (omega arith)

  last_is_over : LineOver (variables N M) (last_of N M)
  unfolding last_of variables
  last_is_over = last_over (variables N M) few_variables (first_difference N M) (length N.outputs) sn.few_outputs.1 (omega arith)

  question_over : Each (LineOver (variables N M)) (question N M)
  question_over = rw question_is (each_append (LineOver (variables N M)) (first_lines N) _ first_over
      (each_append (LineOver (variables N M)) (second_lines N M) _ second_over
      (each_append (LineOver (variables N M)) (pair_lines N M) _ pairs_over (last_is_over, tt))))

  -- every line of the question is over the variables that the header counts, and narrow
  pub question_named : Each (Named (variables N M)) (question N M)
  question_named = each_imp (LineOver (variables N M)) (Named (variables N M)) (λ line h. h.named) (question N M) question_over

  pub question_narrow : Each ShortLine (question N M)
  question_narrow = each_imp (LineOver (variables N M)) ShortLine (λ line h. h.narrow) (question N M) question_over

  module _ (outputs : length N.outputs ≡ length M.outputs) where
    pub few_lines : length (question N M) < 1000
    few_lines = omega (arith, question_length N M outputs)

    header_short : length (header_text (variables N M) (length (question N M))) ≤ 254
    unfolding header_text variable_word constraint_word
    header_short = simp length-append (omega (arith, decimal_short (variables N M) 2 few_variables, decimal_short (length (question N M)) 2 few_lines))

    -- "at most 254 bytes, line feed included"
    pub line_short : (n : ℕ) → n ≤ length (question N M) → length (question_text N M n) ≤ 254
    unfolding question_text
    line_short zero h = header_short
    line_short (suc n) h = (each_get_or ShortLine (question N M) no_line question_narrow n h).short
