-- The tables into which two networks are put hold their joint gates, and stand for the two. Assumes nothing.
use Rattle.std.specs.Prelude.{◌≡◌, true, T, ℤ, pos, nat_abs}
use Rattle.std.proofs.Math.Path.{sym, ap}
use Rattle.std.proofs.Common.{◌∙◌, subst}
use Rattle.std.proofs.Math.Bool.{false}
use mathlib.Core.List.{List, [], ◌∷◌, ◌++◌, map, map-map, map-append}
use Prim.Native.Nat.{ℕ, zero, suc, ◌+◌, ◌-◌, ◌≤◌, ◌<◌}
use Rattle.std.proofs.Math.Decide.{dec_lt}
use native.Mathlib.Omega.{arith}
use Rattle.std.proofs.Math.ListN.{length, get_or, get_or-eq_default}
use Rattle.basics.specs.Lists.{range, tab, Each}
use Rattle.basics.specs.ListLaws.{each_get_or, tab_same, get_or_tab, length_tab, range_append, range_each}
use Rattle.basics.specs.SizeLaws.{SizesWithin}
use Rattle.basics.specs.TableLaws.{range_tab, map_tab, get_d_map}
use Rattle.basics.specs.TestLaws.{T_is}
use Rattle.network.specs.Threshold.{Feed, Gate, Net, output_bits, values}
use Rattle.network.specs.Limits.{scale, scale_ok, signals_of}
use Rattle.network.specs.LimitLaws.{gates_at, gate_sizes}
use Rattle.network.specs.Places.{Pasted}
use Rattle.network.specs.PlaceLaws.{gate_in_gate_record}
use Rattle.network.specs.Record.{feed_at, feeds_from, gate_from, gate_in, gate_record, net_of, no_feed, no_gate, nth_gate, row_at, sound_record}
use Rattle.network.specs.RecordLaws.{count_gates, count_outputs, gate_within, output_within, row_gate, sound_net}
use Rattle.network.specs.SoundLaws.{CountsInArrays, sized_of}
use Rattle.network.specs.declared.GateRecord.{GateRecord}
use Rattle.network.specs.declared.Network.{Network}
use Rattle.network_equivalence.specs.Consistent.{Ordered, WellFormed}
use Rattle.network_equivalence.proofs.ConsistentLaws.{sound_good}
use Rattle.network_places.specs.PasteLaws.{pasted_first}
use Rattle.question_theory.specs.Question.{second_variable, second_of, over_gate}
use Rattle.question_theory.proofs.AlikeLaws.{alike_inputs}
use Rattle.question_lines.specs.Lines.{Comparable}
use Rattle.question_lines.specs.StretchLaws.{first_gate_lem}
use Rattle.compare_theory.specs.Joint.{Joint, joint, wires_of, weights_of, fanin, gate_of_rows, gate_of, gates_of, Ready}
use Rattle.compare_theory.proofs.RowLaws.{feeds_over}
use Rattle.compare_theory.specs.SideBySide.{joined, both}
use Rattle.compare_theory.proofs.SideBySideLaws.{second_most, joined_ordered, both_fits, both_second}
use Rattle.compare_theory.specs.Wiring.{StandsFor}
use Rattle.compare_joint.specs.Rows.{wires_row, weights_row, Laid, OutputsPut}

-- ---- the rows of a gate
module _ (φ : ℕ → ℕ) (x : Gate) (few : length x.feeds ≤ 16) where
  abbrev row : GateRecord
  row = gate_record x

  signals_long : length row.signals ≡ 16
  unfolding gate_record
  signals_long = length_tab 16 (λ i. (get_or x.feeds i no_feed).signal)

  -- they stand for the gate over the signals φ
  rows_gate : gate_of_rows (wires_row φ row) (weights_row row) ≡ over_gate φ x
  unfolding gate_of_rows over_gate gate_record gate_in
  rows_gate =
      (λ z. record {
        feeds = feeds_over φ row.signals (wires_row φ row) row.weights (weights_row row) 0 1 (length x.feeds) signals (λ i h. next i) z;
        threshold = x.threshold;
      })
      ∙ ap (over_gate φ) (gate_in_gate_record x few)
    where
      next : (i : ℕ) → get_or (weights_row row) (1 + i) (pos 0) ≡ get_or row.weights (0 + i) (pos 0)
      next i = ap (λ (k : ℕ). get_or (weights_row row) k (pos 0)) (let e : 1 + i ≡ suc i = omega arith in e)
          ∙ ap (λ (k : ℕ). get_or row.weights k (pos 0)) (let e : i ≡ 0 + i = omega arith in e)

      signals : (i : ℕ) → i < length x.feeds → get_or (wires_row φ row) (1 + i) 0 ≡ φ (get_or row.signals (0 + i) 0)
      signals i h = ap (λ (k : ℕ). get_or (wires_row φ row) k 0) (let e : 1 + i ≡ suc i = omega arith in e)
          ∙ get_d_map φ row.signals i 0 0 (omega (arith, signals_long))
          ∙ ap (λ (k : ℕ). φ (get_or row.signals k 0)) (let e : i ≡ 0 + i = omega arith in e)

-- a feed of a list, or none
feed_small : (fs : List Feed) → Each (λ f. nat_abs f.weight ≤ scale) fs → (i : ℕ) → nat_abs (get_or fs i no_feed).weight ≤ scale
feed_small [] h i = omega arith
feed_small (f ∷ fs) h zero = h.0
feed_small (f ∷ fs) h (suc i) = feed_small fs h.1 i

-- a gate's threshold and the weights of its 16 places
record_small : (x : Gate) → nat_abs x.threshold ≤ scale → Each (λ f. nat_abs f.weight ≤ scale) x.feeds → SizesWithin 1000000 (weights_row (gate_record x))
unfolding gate_record
record_small x t ws zero = t
record_small x t ws (suc i) = elim (dec_lt i 16) as (λ d. nat_abs (get_or (gate_record x).weights i (pos 0)) ≤ 1000000) [
  | yes k ↦ rw (get_or_tab (pos 0) 16 (λ i. (get_or x.feeds i no_feed).weight) i k) (feed_small x.feeds ws i)
  | no k ↦ rw (get_or-eq_default (gate_record x).weights (pos 0) {n = i} (omega (arith, length_tab 16 (λ i. (get_or x.feeds i no_feed).weight)))) (omega arith)
]

-- ---- a sound record's gates
module _ (r : Network) (sound : sound_record r ≡ true) where
  abbrev own : ℕ → Gate
  own g = gate_from r.fanins r.thresholds r.signals r.weights g

  abbrev row_in : ℕ → GateRecord
  row_in g = row_at r.fanins r.thresholds r.signals r.weights g

  row_is : (g : ℕ) → g < r.gates → row_in g ≡ gate_record (own g)
  row_is g h = row_gate r g (T_is (sound_record r) sound) h

  gate_few : (g : ℕ) → g < r.gates → length (own g).feeds ≤ 16
  unfolding row_at gate_record
  gate_few g h = omega (arith, (sized_of r sound).few_feeds g h, ap (λ (x : GateRecord). x.fanin) (row_is g h))

  -- its rows over the signals φ
  rows_are : (φ : ℕ → ℕ) (g : ℕ) → g < r.gates → gate_of_rows (wires_row φ (row_in g)) (weights_row (row_in g)) ≡ over_gate φ (own g)
  rows_are φ g h = ap (λ (x : GateRecord). gate_of_rows (wires_row φ x) (weights_row x)) (row_is g h) ∙ rows_gate φ (own g) (gate_few g h)

  sizes : (g : ℕ) → g < r.gates → (nat_abs (own g).threshold ≤ scale) × Each (λ f. nat_abs f.weight ≤ scale) (own g).feeds
  sizes g h = gate_sizes (own g) (subst (λ (x : Gate). T (scale_ok x)) (gate_within r g h)
      (gates_at (net_of r).inputs g (net_of r).gates no_gate (sound_net r (T_is (sound_record r) sound)).all_gates (omega (arith, count_gates r))).scaled)

  row_small : (g : ℕ) → g < r.gates → SizesWithin 1000000 (weights_row (row_in g))
  row_small g h = subst (λ (x : GateRecord). SizesWithin 1000000 (weights_row x)) (sym (row_is g h)) (record_small (own g) (sizes g h).0 (sizes g h).1)

-- ---- two networks put one after the other
tab_append : {A : Type 0} (n m : ℕ) (f : ℕ → A) → tab (n + m) f ≡ tab n f ++ tab m (λ i. f (n + i))
tab_append n m f = ap (map f) (range_append 0 n m) ∙ map-append f (range 0 n) (range (0 + n) m)
    ∙ ap (λ (l : List _). tab n f ++ l) (ap (λ (k : ℕ). map f (range k m)) (let e : 0 + n ≡ n = omega arith in e) ∙ range_tab f n m)

-- gates that read only signals before them
ordered_at : (n : ℕ) (gs : List Gate) → Ordered n gs → (g : ℕ) → g < length gs → Each (λ s. s < n + g) (signals_of (nth_gate gs g).feeds)
ordered_at n [] o g h = absurd (omega arith)
ordered_at n (x ∷ gs) o zero h = rw (let e : n + 0 ≡ n = omega arith in e) o.0
ordered_at n (x ∷ gs) o (suc g) h = rw (let e : n + suc g ≡ suc n + g = omega arith in e) (ordered_at (suc n) gs o.1 g (omega arith))

module _ (a b : Network) (pair : Comparable a b) (w₀ w₁ w₂ : List (List ℕ)) (v₀ v₁ v₂ : List (List ℤ)) (long : length w₀ ≡ 256) (long_weights : length v₀ ≡ 256)
    (first : Laid a 0 w₀ v₀ w₁ v₁) (second : Laid b a.gates w₁ v₁ w₂ v₂) where
  abbrev J : Joint
  J = joint a.inputs (a.gates + b.gates) w₂ v₂

  abbrev A : Net
  A = net_of a

  abbrev B : Net
  B = net_of b

  few_a : CountsInArrays a
  few_a = sized_of a pair.first_sound

  few_b : CountsInArrays b
  few_b = sized_of b pair.second_sound

  inputs : A.inputs ≡ B.inputs
  inputs = alike_inputs A B pair.same_counts

  good_a : WellFormed A
  good_a = sound_good A (sound_net a (T_is (sound_record a) pair.first_sound))

  good_b : WellFormed B
  good_b = sound_good B (sound_net b (T_is (sound_record b) pair.second_sound))

  -- the rows of both
  wires_first : (g : ℕ) → g < a.gates → get_or w₂ g [] ≡ wires_row (second_variable a.inputs 0) (row_in a pair.first_sound g)
  wires_first g h = second.wires_put.before g h ∙ pasted_first first.wires_put h (omega (arith, few_a.few_gates))

  weights_first : (g : ℕ) → g < a.gates → get_or v₂ g [] ≡ weights_row (row_in a pair.first_sound g)
  weights_first g h = second.weights_put.before g h ∙ pasted_first first.weights_put h (omega (arith, few_a.few_gates))

  wires_second : (g : ℕ) → g < b.gates → get_or w₂ (a.gates + g) [] ≡ wires_row (second_variable b.inputs a.gates) (row_in b pair.second_sound g)
  wires_second g h = second.wires_put.inside g h (omega (arith, few_a.few_gates, few_b.few_gates, first.wires_put.long))

  weights_second : (g : ℕ) → g < b.gates → get_or v₂ (a.gates + g) [] ≡ weights_row (row_in b pair.second_sound g)
  weights_second g h = second.weights_put.inside g h (omega (arith, few_a.few_gates, few_b.few_gates, first.weights_put.long))

  -- their gates
  at_first : (g : ℕ) → g < a.gates → gate_of J g ≡ own a pair.first_sound g
  at_first g h = ap (λ (row : List ℕ). gate_of_rows row (get_or v₂ g [])) (wires_first g h)
      ∙ ap (gate_of_rows (wires_row (second_variable a.inputs 0) (row_in a pair.first_sound g))) (weights_first g h)
      ∙ rows_are a pair.first_sound (second_variable a.inputs 0) g h
      ∙ sym (first_gate_lem a.inputs (own a pair.first_sound g))

  at_second : (g : ℕ) → g < b.gates → gate_of J (a.gates + g) ≡ over_gate (second_of A) (own b pair.second_sound g)
  unfolding net_of
  at_second g h = ap (λ (row : List ℕ). gate_of_rows row (get_or v₂ (a.gates + g) [])) (wires_second g h)
      ∙ ap (gate_of_rows (wires_row (second_variable b.inputs a.gates) (row_in b pair.second_sound g))) (weights_second g h)
      ∙ rows_are b pair.second_sound (second_variable b.inputs a.gates) g h
      ∙ ap (λ (i : ℕ). over_gate (second_variable i a.gates) (own b pair.second_sound g)) (sym inputs)
      ∙ ap (λ (n : ℕ). over_gate (second_variable a.inputs n) (own b pair.second_sound g)) (sym (count_gates a))

  pub joint_gates : gates_of J ≡ joined A B
  unfolding joined net_of
  joint_gates =
      let φ : ℕ → ℕ = second_of A in
      tab_append a.gates b.gates (gate_of J)
      ∙ ap (λ (gs : List Gate). gs ++ tab b.gates (λ g. gate_of J (a.gates + g))) (tab_same a.gates (gate_of J) (own a pair.first_sound) at_first)
      ∙ ap (λ (gs : List Gate). tab a.gates (own a pair.first_sound) ++ gs)
      (tab_same b.gates (λ g. gate_of J (a.gates + g)) (λ g. over_gate φ (own b pair.second_sound g)) at_second
      ∙ sym (map_tab (over_gate φ) b.gates (own b pair.second_sound)))

  pub joint_ordered : Ordered a.inputs (gates_of J)
  unfolding net_of
  joint_ordered = rw joint_gates (joined_ordered A B inputs good_a good_b)

  -- ---- a refutation can run on the tables

  -- one of the rows is the first network's, or the second's
  each_row : (P : List ℕ → List ℤ → Type 0)
      → ((g : ℕ) → g < a.gates → P (wires_row (second_variable a.inputs 0) (row_in a pair.first_sound g)) (weights_row (row_in a pair.first_sound g)))
      → ((g : ℕ) → g < b.gates → P (wires_row (second_variable b.inputs a.gates) (row_in b pair.second_sound g)) (weights_row (row_in b pair.second_sound g)))
      → (g : ℕ) → g < a.gates + b.gates → P (wires_of J g) (weights_of J g)
  each_row P h k g l = elim (dec_lt g a.gates) as (λ t. P (wires_of J g) (weights_of J g)) [
    | yes m ↦ rw (wires_first g m, weights_first g m) (h g m)
    | no m ↦
        let i : ℕ = g - a.gates in
        let n : i < b.gates = omega arith in
        let e : g ≡ a.gates + i = omega arith in
        rw e (rw (wires_second i n, weights_second i n) (k i n))
  ]

  -- a gate's feeds come before it, so they are signals that there are
  feeds_before : (g i : ℕ) → g < a.gates + b.gates → i < fanin (wires_of J g) → get_or (wires_of J g) (1 + i) 0 < a.inputs + g
  unfolding gate_of_rows feeds_from feed_at signals_of
  feeds_before g i h k =
      range_each (λ s. s < a.inputs + g) (λ p. get_or (wires_of J g) p 0) 1 (fanin (wires_of J g))
      (rw map-map at (subst (λ (y : Gate). Each (λ s. s < a.inputs + g) (signals_of y.feeds)) (get_or_tab no_gate (a.gates + b.gates) (gate_of J) g h)
      (ordered_at a.inputs (gates_of J) joint_ordered g (omega (arith, length_tab (a.gates + b.gates) (gate_of J))))))
      (1 + i) (omega arith) (omega arith)

  few_of : (r : Network) (sound : sound_record r ≡ true) (φ : ℕ → ℕ) (g : ℕ) → g < r.gates → fanin (wires_row φ (row_in r sound g)) ≤ 16
  unfolding row_at
  few_of r sound φ g h = (sized_of r sound).few_feeds g h

  pub joint_ready : Ready J
  joint_ready = record {
    few_inputs = few_a.few_inputs;
    few_gates = omega (arith, few_a.few_gates, few_b.few_gates);
    within = omega (arith, few_a.few_gates, few_b.few_gates, long, first.wires_put.long, second.wires_put.long);
    gate = λ g h. record {
      few = each_row (λ ws vs. fanin ws ≤ 16) (few_of a pair.first_sound (second_variable a.inputs 0))
          (few_of b pair.second_sound (second_variable b.inputs a.gates)) g h;
      there = λ i k. omega (arith, feeds_before g i h k, few_a.few_inputs, few_a.few_gates, few_b.few_gates);
      small = each_row (λ ws vs. SizesWithin 1000000 vs) (row_small a pair.first_sound) (row_small b pair.second_sound) g h;
    };
  }

  -- ---- and they stand for the two networks
  pub joint_stands : (outs : List ℕ) → OutputsPut A B outs → StandsFor A B J outs
  unfolding net_of output_bits
  joint_stands outs o = record {
    wired = record {
      ready = joint_ready;
      ordered = joint_ordered;
      room = omega (arith, o.long, count_outputs b, few_b.few_outputs);
      low = λ j h.
          let own = each_get_or (λ s. s < B.inputs + length B.gates) B.outputs 0 good_b.within j h in
          omega (arith, o.at j h, second_most a.inputs (length A.gates) (get_or B.outputs j 0), own, inputs, count_gates a, count_gates b);
    };
    fits = λ ρ. record { gate_bits = rw joint_gates (both_fits A B inputs good_a good_b ρ) };
    outputs = λ ρ j h.
        ap (both A B ρ) (o.at j h)
        ∙ both_second A B inputs good_a good_b ρ (get_or B.outputs j 0) (each_get_or (λ s. s < B.inputs + length B.gates) B.outputs 0 good_b.within j h)
        ∙ sym (get_d_map (values B ρ) B.outputs j 0 false h);
  }

-- the outputs' signals, one after another
pub outputs_put : (a b : Network) → Comparable a b → {old outs : List ℕ} → length old ≡ 16
    → Pasted 0 0 b.outputs (λ j. second_variable a.inputs a.gates (get_or b.drivers j 0)) old outs → OutputsPut (net_of a) (net_of b) outs
unfolding net_of
outputs_put a b pair long put = record {
  long = put.long ∙ long;
  at = λ j h.
      let few = (sized_of b pair.second_sound).few_outputs in
      let within : j < b.outputs = omega (arith, count_outputs b) in
      pasted_first put within (omega arith)
      ∙ ap (second_variable a.inputs a.gates) (sym (output_within b j within))
      ∙ ap (λ (n : ℕ). second_variable a.inputs n (get_or (net_of b).outputs j 0)) (sym (count_gates a));
}
