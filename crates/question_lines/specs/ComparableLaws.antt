-- What two networks that can be asked about have: equal counts, small counts, so many lines, and gates within the limits. Assumes
-- nothing.
use Rattle.std.specs.Prelude.{◌≡◌, true, ◌&&◌, ℕ, zero, suc, ◌+◌, ◌*◌, ◌-◌, ◌≤◌, ◌<◌, eqb, length, get_or}
use Rattle.std.proofs.Math.Path.{sym, ap, subst}
use Rattle.std.proofs.Common.{◌∙◌, arith}
use Rattle.std.proofs.Math.IntN.{nat_abs}
use Rattle.basics.specs.TestLaws.{T_is}
use Rattle.network.specs.Limits.{scale}
use Rattle.basics.specs.Lists.{Each}
use Rattle.basics.specs.ListLaws.{each_get_or}
use Rattle.network.specs.Threshold.{Gate, Net}
use Rattle.network.specs.Record.{net_of, sound_record, gate_in, gate_record, nth_gate, no_gate, row_at}
use Rattle.network.specs.Sound.{Sound, GateOk}
use Rattle.network.specs.LimitLaws.{gates_at, gate_sizes}
use Rattle.network.specs.PlaceLaws.{gate_in_gate_record}
use Rattle.network.specs.RecordLaws.{count_gates, count_outputs, gate_within, sound_net, row_gate}
use Rattle.network.specs.SoundLaws.{sized_of}
use Rattle.network.specs.declared.GateRecord.{GateRecord}
use Rattle.network.specs.declared.Network.{Network}
use Rattle.question_theory.specs.Question.{first_difference, question, variables, alike}
use Rattle.question_theory.proofs.AlikeLaws.{alike_inputs, alike_outputs}
use Rattle.question_theory.specs.Text.{line_text, no_line, header_text, question_text}
use Rattle.question_theory.proofs.LineLaws.{question_length}
use Rattle.question_theory.proofs.SizeLaws.{ShortLine, question_narrow, line_short}
use Rattle.question_terms.specs.Terms.{InLimits}
use Rattle.question_lines.specs.Lines.{Comparable, lines_of}

-- ---- a gate of a sound record, by itself
module _ (r : Network) (g : ℕ) (sound : sound_record r ≡ true) (h : g < r.gates) where
  abbrev row : GateRecord
  row = row_at r.fanins r.thresholds r.signals r.weights g

  -- its limits
  gate_limits : GateOk ((net_of r).inputs + g) (nth_gate (net_of r).gates g)
  gate_limits = gates_at (net_of r).inputs g (net_of r).gates no_gate (sound_net r (T_is (sound_record r) sound)).all_gates (omega (arith, count_gates r))

  row_is : row ≡ gate_record (nth_gate (net_of r).gates g)
  row_is = row_gate r g (T_is (sound_record r) sound) h ∙ ap gate_record (sym (gate_within r g h))

  -- it is the network's gate
  pub row_gate_is : gate_in row ≡ nth_gate (net_of r).gates g
  row_gate_is = ap gate_in row_is ∙ gate_in_gate_record (nth_gate (net_of r).gates g) gate_limits.few

  pub row_scaled : InLimits row
  unfolding gate_record gate_in
  row_scaled =
      let sizes = gate_sizes (nth_gate (net_of r).gates g) gate_limits.scaled in
      let same = sym row_gate_is in
      record {
        few = omega (arith, gate_limits.few, ap (λ (x : GateRecord). x.fanin) row_is);
        threshold_small = subst (λ (x : Gate). nat_abs x.threshold ≤ scale) same sizes.0;
        sizes = subst (λ (x : Gate). Each (λ f. nat_abs f.weight ≤ scale) x.feeds) same sizes.1;
      }

-- ---- two networks
pub alike_is : (a b : Network) → eqb a.inputs b.inputs && eqb a.outputs b.outputs ≡ alike (net_of a) (net_of b)
unfolding alike net_of
alike_is a b = sym (rw (count_outputs a, count_outputs b))

module _ {a b : Network} (p : Comparable a b) where
  -- the counts are small
  pub small_counts : (a.inputs ≤ 40) × (a.gates ≤ 128) × (b.gates ≤ 128) × (a.outputs ≤ 16)
  small_counts = let x = sized_of a p.first_sound in (x.few_inputs, x.few_gates, (sized_of b p.second_sound).few_gates, x.few_outputs)

  pub same_drivers : length (net_of a).outputs ≡ length (net_of b).outputs
  same_drivers = alike_outputs (net_of a) (net_of b) p.same_counts

  pub same_outputs : a.outputs ≡ b.outputs
  same_outputs = sym (count_outputs a) ∙ same_drivers ∙ count_outputs b

  same_signals : (net_of a).inputs ≡ (net_of b).inputs
  same_signals = alike_inputs (net_of a) (net_of b) p.same_counts

  pub same_inputs : a.inputs ≡ b.inputs
  unfolding net_of
  same_inputs = same_signals

  first_net : Sound (net_of a)
  first_net = sound_net a (T_is (sound_record a) p.first_sound)

  second_net : Sound (net_of b)
  second_net = sound_net b (T_is (sound_record b) p.second_sound)

  -- how many lines follow the header
  pub lines_are : lines_of (net_of a) (net_of b) ≡ 2 * a.gates + 2 * b.gates + 2 * a.outputs + 1
  unfolding lines_of
  lines_are = omega (arith, question_length (net_of a) (net_of b) same_drivers, count_gates a, count_gates b, count_outputs a)

  -- the first d, and how many variables there are
  pub difference_is : first_difference (net_of a) (net_of b) ≡ a.inputs + a.gates + b.gates
  unfolding first_difference net_of
  difference_is = omega (arith, count_gates a, count_gates b)

  variables_are : variables (net_of a) (net_of b) ≡ a.inputs + a.gates + b.gates + a.outputs
  unfolding variables
  variables_are = omega (arith, difference_is, count_outputs a)

  -- a line is narrow, and the header has room
  pub line_narrow : (i : ℕ) → i < lines_of (net_of a) (net_of b) → ShortLine (get_or (question (net_of a) (net_of b)) i no_line)
  unfolding lines_of
  line_narrow i h = each_get_or ShortLine (question (net_of a) (net_of b)) no_line (question_narrow (net_of a) (net_of b) first_net second_net same_signals) i h

  pub text_short : (n : ℕ) → n ≤ lines_of (net_of a) (net_of b) → length (question_text (net_of a) (net_of b) n) ≤ 254
  unfolding lines_of
  text_short n h = line_short (net_of a) (net_of b) first_net second_net same_signals same_drivers n h

  -- the text of line n, the header or a line after it
  pub header_is : {n v c : ℕ} → n ≡ 0 → v ≡ a.inputs + a.gates + b.gates + a.outputs → c ≡ lines_of (net_of a) (net_of b)
      → header_text v c ≡ question_text (net_of a) (net_of b) n
  unfolding question_text lines_of
  header_is z e d = rw (z, e, d, variables_are)

pub line_is : (N M : Net) (n : ℕ) → 0 < n → line_text (get_or (question N M) (n - 1) no_line) ≡ question_text N M n
unfolding question_text
line_is N M zero h = absurd (omega arith)
line_is N M (suc n) h = ap (λ (k : ℕ). line_text (get_or (question N M) k no_line)) (let e : suc n - 1 ≡ n = omega arith in e)
