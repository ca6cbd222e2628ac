-- How many lines the question has, and which line stands at which number. Assumes nothing.
use Rattle.std.specs.Prelude.{◌≡◌, refl, ℕ, zero, suc, ◌+◌, ◌*◌, ◌≤◌, ◌<◌, ltb, get_or}
use Rattle.std.proofs.Common.{sym, ◌∙◌, lt→ltb, length-append}
use Rattle.std.proofs.Math.Path.{ap}
use mathlib.Core.List.{List, [], ◌∷◌, ◌++◌, map, map-id}
use native.Mathlib.Omega.{arith}
use Rattle.std.proofs.Math.Arith.{le→nltb}
use Rattle.std.proofs.Math.ListN.{length, get_or-append}
use Rattle.std.proofs.lemmas.List.{length-map}
use Rattle.std.proofs.Math.Seq.{get_or_at}
use Rattle.basics.specs.TestLaws.{is_true, is_false}
use Rattle.network.specs.Threshold.{Gate, Net}
use Rattle.network.specs.Record.{nth_gate}
use Rattle.question_theory.specs.Question.{upper, lower, second_variable, over_gate, gate_lines, some_line, not_both_line, output_lines, last_line}
use Rattle.question_theory.specs.Question.{first_difference, question}
use Rattle.question_theory.specs.Text.{no_line}
use Rattle.question_theory.specs.Question.{second_of, first_lines, second_lines, pair_lines, last_of}
use Rattle.basics.specs.TableLaws.{get_d_map}
use Rattle.question_theory.proofs.MemberLaws.{get_or_behind}

-- ---- the variables of the second network
pub second_input : (i g s : ℕ) → s < i → second_variable i g s ≡ s
unfolding second_variable
second_input i g s h = rw (is_true (ltb s i) (lt→ltb s i h))

pub second_gate : (i g s : ℕ) → i ≤ s → second_variable i g s ≡ s + g
unfolding second_variable
second_gate i g s h = rw (is_false (ltb s i) (le→nltb s i h))

-- ---- the stretches
pub question_is : (N M : Net) → question N M ≡ first_lines N ++ (second_lines N M ++ (pair_lines N M ++ (last_of N M ∷ [])))
unfolding question
question_is N M = refl

-- ---- the lines of gates
length_gate_lines : (φ : ℕ → ℕ) (n : ℕ) (gs : List Gate) → length (gate_lines φ n gs) ≡ 2 * length gs
unfolding gate_lines
length_gate_lines φ n [] = refl
length_gate_lines φ n (g ∷ gs) = omega (arith, length_gate_lines φ (suc n) gs)

twice_more : (i : ℕ) → (2 * suc i ≡ suc (suc (2 * i))) × (2 * suc i + 1 ≡ suc (suc (2 * i + 1)))
twice_more i = omega arith

-- the two lines of gate g
gate_lines_lem : (φ : ℕ → ℕ) (n g : ℕ) (gs : List Gate) → g < length gs
    → (get_or (gate_lines φ n gs) (2 * g) no_line ≡ upper (φ (n + g)) (over_gate φ (nth_gate gs g)))
    × (get_or (gate_lines φ n gs) (2 * g + 1) no_line ≡ lower (φ (n + g)) (over_gate φ (nth_gate gs g)))
unfolding gate_lines
gate_lines_lem φ n g [] h = absurd (omega arith)
gate_lines_lem φ n zero (x ∷ gs) h = let e : n ≡ n + 0 = omega arith in (ap (λ (y : ℕ). upper (φ y) (over_gate φ x)) e, ap (λ (y : ℕ). lower (φ y) (over_gate φ x)) e)
gate_lines_lem φ n (suc g) (x ∷ gs) h =
    let e : n + suc g ≡ suc n + g = omega arith in
    rw ((twice_more g).1, (twice_more g).0, e) (gate_lines_lem φ (suc n) g gs (omega arith))

-- the first network's variables are its signals
pub over_same : (g : Gate) → over_gate (λ s. s) g ≡ g
unfolding over_gate
over_same g = ap (λ fs. record { feeds = fs; threshold = g.threshold }) (map-id g.feeds)

-- ---- the lines of outputs
length_output_lines : (ps qs : List ℕ) (d : ℕ) → length ps ≡ length qs → length (output_lines ps qs d) ≡ 2 * length ps
unfolding output_lines
length_output_lines [] qs d e = refl
length_output_lines (p ∷ ps) [] d e = absurd (omega arith)
length_output_lines (p ∷ ps) (q ∷ qs) d e = omega (arith, length_output_lines ps qs (suc d) (omega arith))

-- the two lines of output j
output_lines_lem : (ps qs : List ℕ) (d j : ℕ) → length ps ≡ length qs → j < length ps
    → (get_or (output_lines ps qs d) (2 * j) no_line ≡ some_line (get_or ps j 0) (get_or qs j 0) (d + j))
    × (get_or (output_lines ps qs d) (2 * j + 1) no_line ≡ not_both_line (get_or ps j 0) (get_or qs j 0) (d + j))
unfolding output_lines
output_lines_lem [] qs d j e h = absurd (omega arith)
output_lines_lem (p ∷ ps) [] d j e h = absurd (omega arith)
output_lines_lem (p ∷ ps) (q ∷ qs) d zero e h = let i : d ≡ d + 0 = omega arith in (ap (some_line p q) i, ap (not_both_line p q) i)
output_lines_lem (p ∷ ps) (q ∷ qs) d (suc j) e h =
    let i : d + suc j ≡ suc d + j = omega arith in
    rw ((twice_more j).1, (twice_more j).0, i) (output_lines_lem ps qs (suc d) j (omega arith) (omega arith))

-- ---- the lines of the question
module _ (N M : Net) where
  length_first : length (first_lines N) ≡ 2 * length N.gates
  unfolding first_lines
  length_first = length_gate_lines (λ s. s) N.inputs N.gates

  length_second : length (second_lines N M) ≡ 2 * length M.gates
  unfolding second_lines
  length_second = length_gate_lines (second_of N) M.inputs M.gates

  at_first : (i : ℕ) → i < 2 * length N.gates → get_or (question N M) i no_line ≡ get_or (first_lines N) i no_line
  at_first i h = rw question_is (get_or-append (first_lines N) _ no_line i (omega (arith, length_first)))

  behind_first : (i : ℕ) → get_or (question N M) (2 * length N.gates + i) no_line ≡ get_or (second_lines N M ++ (pair_lines N M ++ (last_of N M ∷ []))) i no_line
  behind_first i = rw question_is (get_or_behind (first_lines N) _ no_line (2 * length N.gates) i (sym length_first))

  at_second : (i : ℕ) → i < 2 * length M.gates → get_or (question N M) (2 * length N.gates + i) no_line ≡ get_or (second_lines N M) i no_line
  at_second i h = behind_first i ∙ get_or-append (second_lines N M) _ no_line i (omega (arith, length_second))

  behind_second : (i : ℕ) → get_or (question N M) (2 * length N.gates + 2 * length M.gates + i) no_line ≡ get_or (pair_lines N M ++ (last_of N M ∷ [])) i no_line
  behind_second i = rw (let e : 2 * length N.gates + 2 * length M.gates + i ≡ 2 * length N.gates + (2 * length M.gates + i) = omega arith in e)
      (behind_first (2 * length M.gates + i) ∙ get_or_behind (second_lines N M) _ no_line (2 * length M.gates) i (sym length_second))

  module _ (same : length N.outputs ≡ length M.outputs) where
    same_outputs : length N.outputs ≡ length (map (second_of N) M.outputs)
    same_outputs = same ∙ sym (length-map M.outputs _)

    length_pairs : length (pair_lines N M) ≡ 2 * length N.outputs
    unfolding pair_lines
    length_pairs = length_output_lines N.outputs (map (second_of N) M.outputs) (first_difference N M) same_outputs

    pub question_length : length (question N M) ≡ 2 * length N.gates + 2 * length M.gates + 2 * length N.outputs + 1
    question_length = rw question_is (simp length-append (omega (arith, length_first, length_second, length_pairs)))

    at_pairs : (i : ℕ) → i < 2 * length N.outputs
        → get_or (question N M) (2 * length N.gates + 2 * length M.gates + i) no_line ≡ get_or (pair_lines N M) i no_line
    at_pairs i h = behind_second i ∙ get_or-append (pair_lines N M) _ no_line i (omega (arith, length_pairs))

    -- the two lines of output j
    pub output_some : (j : ℕ) → j < length N.outputs → get_or (question N M) (2 * length N.gates + 2 * length M.gates + 2 * j) no_line
        ≡ some_line (get_or N.outputs j 0) (second_of N (get_or M.outputs j 0)) (first_difference N M + j)
    unfolding pair_lines
    output_some j h = at_pairs (2 * j) (omega arith) ∙ (output_lines_lem N.outputs _ (first_difference N M) j same_outputs h).0
        ∙ ap (λ (q : ℕ). some_line (get_or N.outputs j 0) q (first_difference N M + j)) (get_d_map _ M.outputs j 0 0 (omega arith))

    pub output_not_both : (j : ℕ) → j < length N.outputs → get_or (question N M) (2 * length N.gates + 2 * length M.gates + 2 * j + 1) no_line
        ≡ not_both_line (get_or N.outputs j 0) (second_of N (get_or M.outputs j 0)) (first_difference N M + j)
    unfolding pair_lines
    output_not_both j h =
        let before = 2 * length N.gates + 2 * length M.gates in
        let e : before + 2 * j + 1 ≡ before + (2 * j + 1) = omega arith in
        rw e
        (at_pairs (2 * j + 1) (omega arith) ∙ (output_lines_lem N.outputs _ (first_difference N M) j same_outputs h).1
        ∙ ap (λ (q : ℕ). not_both_line (get_or N.outputs j 0) q (first_difference N M + j)) (get_d_map _ M.outputs j 0 0 (omega arith)))

    pub last_line_lem : get_or (question N M) (2 * length N.gates + 2 * length M.gates + 2 * length N.outputs) no_line
        ≡ last_line (first_difference N M) (length N.outputs)
    unfolding last_of
    last_line_lem = behind_second (2 * length N.outputs) ∙ get_or_at (pair_lines N M) (last_of N M) [] no_line (2 * length N.outputs) length_pairs

  -- the two lines of gate g of the first network
  pub first_upper : (g : ℕ) → g < length N.gates → get_or (question N M) (2 * g) no_line ≡ upper (N.inputs + g) (nth_gate N.gates g)
  unfolding first_lines
  first_upper g h =
      at_first (2 * g) (omega arith)
      ∙ (gate_lines_lem (λ s. s) N.inputs g N.gates h).0
      ∙ ap (upper (N.inputs + g)) (over_same (nth_gate N.gates g))

  pub first_lower : (g : ℕ) → g < length N.gates → get_or (question N M) (2 * g + 1) no_line ≡ lower (N.inputs + g) (nth_gate N.gates g)
  unfolding first_lines
  first_lower g h =
      at_first (2 * g + 1) (omega arith)
      ∙ (gate_lines_lem (λ s. s) N.inputs g N.gates h).1
      ∙ ap (lower (N.inputs + g)) (over_same (nth_gate N.gates g))

  -- the two lines of gate g of the second network
  module _ (same : N.inputs ≡ M.inputs) where
    second_own : (g : ℕ) → second_of N (M.inputs + g) ≡ N.inputs + length N.gates + g
    second_own g = second_gate N.inputs (length N.gates) (M.inputs + g) (omega arith) ∙ omega arith

    pub second_upper : (g : ℕ) → g < length M.gates → get_or (question N M) (2 * length N.gates + 2 * g) no_line
        ≡ upper (N.inputs + length N.gates + g) (over_gate (second_of N) (nth_gate M.gates g))
    unfolding second_lines
    second_upper g h = at_second (2 * g) (omega arith) ∙ (gate_lines_lem (second_of N) M.inputs g M.gates h).0
        ∙ ap (λ (y : ℕ). upper y (over_gate (second_of N) (nth_gate M.gates g))) (second_own g)

    pub second_lower : (g : ℕ) → g < length M.gates → get_or (question N M) (2 * length N.gates + 2 * g + 1) no_line
        ≡ lower (N.inputs + length N.gates + g) (over_gate (second_of N) (nth_gate M.gates g))
    unfolding second_lines
    second_lower g h = rw (let e : 2 * length N.gates + 2 * g + 1 ≡ 2 * length N.gates + (2 * g + 1) = omega arith in e)
        (at_second (2 * g + 1) (omega arith) ∙ (gate_lines_lem (second_of N) M.inputs g M.gates h).1
        ∙ ap (λ (y : ℕ). lower y (over_gate (second_of N) (nth_gate M.gates g))) (second_own g))
