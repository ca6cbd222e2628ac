-- The lines of a gate and of an output by their number, made from the records. Assumes nothing.
use Rattle.std.specs.Prelude.{◌≡◌, true, ℕ, ◌+◌, ◌*◌, ◌-◌, ◌/◌, ◌%◌, ◌≤◌, ◌<◌, pos, negsuc, get_or}
use Rattle.std.proofs.Math.Path.{sym, ap}
use Rattle.std.proofs.Common.{◌∙◌, arith, eq-eqb, ne_eqb}
use Rattle.network.specs.Threshold.{Gate}
use Rattle.network.specs.Record.{net_of, sound_record, gate_in, nth_gate, row_at}
use Rattle.network.specs.RecordLaws.{count_gates, count_outputs, output_within}
use Rattle.network.specs.declared.GateRecord.{GateRecord}
use Rattle.network.specs.declared.Network.{Network}
use Rattle.question_theory.specs.Question.{Line, upper, lower, second_variable, over_gate, some_line, not_both_line, last_line, first_difference, question}
use Rattle.question_theory.specs.Text.{no_line}
use Rattle.question_theory.specs.Question.{second_of}
use Rattle.question_theory.proofs.LineLaws.{last_line_lem}
use Rattle.question_terms.specs.Terms.{three_terms}
use Rattle.question_lines.specs.Lines.{gate_line, output_line, Comparable, lines_of}
use Rattle.question_lines.specs.LineLaws.{some_is, not_both_is}
use Rattle.question_lines.specs.StretchLaws.{first_stretch, second_stretch, output_stretch}
use Rattle.question_lines.specs.ComparableLaws.{row_gate_is, same_inputs, same_outputs, same_drivers, lines_are, difference_is}

-- ---- a gate's lines
module _ (r : Network) (shift i : ℕ) (sound : sound_record r ≡ true) (h : i < 2 * r.gates) (gate : GateRecord)
    (e : gate ≡ row_at r.fanins r.thresholds r.signals r.weights (i / 2)) where
  gate_is : gate_in gate ≡ nth_gate (net_of r).gates (i / 2)
  gate_is = ap gate_in e ∙ row_gate_is r (i / 2) sound (omega arith)

  pub even_line : i % 2 ≡ 0 → upper (r.inputs + shift + i / 2) (over_gate (second_variable r.inputs shift) (gate_in gate)) ≡ gate_line (net_of r) shift i
  unfolding gate_line net_of
  even_line z = rw (eq-eqb (i % 2) 0 z) (ap (λ (g : Gate). upper (r.inputs + shift + i / 2) (over_gate (second_variable r.inputs shift) g)) gate_is)

  pub odd_line : (i % 2 ≡ 0 → ⊥) → lower (r.inputs + shift + i / 2) (over_gate (second_variable r.inputs shift) (gate_in gate)) ≡ gate_line (net_of r) shift i
  unfolding gate_line net_of
  odd_line z = rw (ne_eqb (i % 2) 0 z) (ap (λ (g : Gate). lower (r.inputs + shift + i / 2) (over_gate (second_variable r.inputs shift) g)) gate_is)

-- ---- an output's lines
module _ {a b : Network} (pair : Comparable a b) (i : ℕ) (h : i < 2 * a.outputs) {p q d : ℕ} (ep : p ≡ get_or a.drivers (i / 2) 0)
    (eq : q ≡ second_variable a.inputs a.gates (get_or b.drivers (i / 2) 0)) (ed : d ≡ a.inputs + a.gates + b.gates + i / 2) where
  first_driver : p ≡ get_or (net_of a).outputs (i / 2) 0
  first_driver = ep ∙ sym (output_within a (i / 2) (omega arith))

  second_driver : q ≡ second_of (net_of a) (get_or (net_of b).outputs (i / 2) 0)
  unfolding net_of
  second_driver = eq ∙ ap (λ (g : ℕ). second_variable a.inputs g (get_or b.drivers (i / 2) 0)) (sym (count_gates a))
      ∙ ap (second_of (net_of a)) (sym (output_within b (i / 2) (omega (arith, same_outputs pair))))

  difference : d ≡ first_difference (net_of a) (net_of b) + i / 2
  difference = ed ∙ ap (λ (x : ℕ). x + i / 2) (sym (difference_is pair))

  -- the three variables
  parts : (line : ℕ → ℕ → ℕ → Line) → line p q d ≡ line (get_or (net_of a).outputs (i / 2) 0) (second_of (net_of a) (get_or (net_of b).outputs (i / 2) 0))
      (first_difference (net_of a) (net_of b) + i / 2)
  parts line = ap (λ (x : ℕ). line x q d) first_driver ∙ ap (λ (x : ℕ). line (get_or (net_of a).outputs (i / 2) 0) x d) second_driver
      ∙ ap (line (get_or (net_of a).outputs (i / 2) 0) (second_of (net_of a) (get_or (net_of b).outputs (i / 2) 0))) difference

  pub even_output : i % 2 ≡ 0 → three_terms p q d (pos 1) (pos 0) ≡ output_line (net_of a) (net_of b) i
  unfolding output_line
  even_output z = some_is p q d ∙ rw (eq-eqb (i % 2) 0 z) (parts some_line)

  pub odd_output : (i % 2 ≡ 0 → ⊥) → three_terms p q d (negsuc 0) (negsuc 1) ≡ output_line (net_of a) (net_of b) i
  unfolding output_line
  odd_output z = not_both_is p q d ∙ rw (ne_eqb (i % 2) 0 z) (parts not_both_line)

-- ---- line i of the question, stretch by stretch
module _ {a b : Network} (pair : Comparable a b) (i : ℕ) where
  abbrev there : Line
  there = get_or (question (net_of a) (net_of b)) i no_line

  -- the line at a number by another name of the number
  renamed : {k : ℕ} → k ≡ i → get_or (question (net_of a) (net_of b)) k no_line ≡ there
  renamed e = ap (λ (k : ℕ). get_or (question (net_of a) (net_of b)) k no_line) e

  pub in_first : i < 2 * a.gates → gate_line (net_of a) 0 i ≡ there
  in_first h = sym (first_stretch (net_of a) (net_of b) i (omega (arith, count_gates a)))

  pub in_second : 2 * a.gates ≤ i → i < 2 * a.gates + 2 * b.gates → gate_line (net_of b) a.gates (i - 2 * a.gates) ≡ there
  unfolding net_of
  in_second k h = ap (λ (g : ℕ). gate_line (net_of b) g (i - 2 * a.gates)) (sym (count_gates a))
      ∙ sym (second_stretch (net_of a) (net_of b) (same_inputs pair) (i - 2 * a.gates) (omega (arith, count_gates b))) ∙ renamed (omega (arith, count_gates a))

  pub in_outputs : 2 * a.gates + 2 * b.gates ≤ i → i < 2 * a.gates + 2 * b.gates + 2 * a.outputs
      → output_line (net_of a) (net_of b) (i - (2 * a.gates + 2 * b.gates)) ≡ there
  in_outputs k h = sym (output_stretch (net_of a) (net_of b) (same_drivers pair) (i - (2 * a.gates + 2 * b.gates)) (omega (arith, count_outputs a)))
      ∙ renamed (omega (arith, count_gates a, count_gates b))

  pub at_last : 2 * a.gates + 2 * b.gates + 2 * a.outputs ≤ i → i < lines_of (net_of a) (net_of b)
      → last_line (a.inputs + a.gates + b.gates) a.outputs ≡ there
  at_last k h = ap (λ (d : ℕ). last_line d a.outputs) (sym (difference_is pair)) ∙ ap (last_line (first_difference (net_of a) (net_of b))) (sym (count_outputs a))
      ∙ sym (last_line_lem (net_of a) (net_of b) (same_drivers pair)) ∙ renamed (omega (arith, count_gates a, count_gates b, count_outputs a, lines_are pair))
