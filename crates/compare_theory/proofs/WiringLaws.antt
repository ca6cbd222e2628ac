-- Rewiring by two signals of one bit keeps what is known of two networks, and where each output's two signals match they have the same output
-- bits. Assumes nothing.
use Rattle.std.specs.Prelude.{◌≡◌, refl, Bool, true, List, [], ◌∷◌, map, ◌⊎◌, ℕ, suc, ◌+◌, ◌≤◌, ◌<◌, T, eqb, get_or}
use Rattle.std.proofs.Math.Path.{sym, ap, fun_ext}
use Rattle.std.proofs.Common.{◌∙◌, arith, eqb→eq}
use Rattle.std.proofs.Math.Bool.{false, cond}
use Rattle.std.proofs.Math.Decide.{dec_lt}
use Rattle.std.proofs.Math.ListN.{length, length-map}
use Rattle.std.proofs.Math.Seq.{ext_get_or}
use Rattle.basics.specs.Lists.{tab}
use Rattle.basics.specs.ListLaws.{get_or_tab, tab_same}
use Rattle.basics.specs.TableLaws.{get_d_map, map_tab}
use Rattle.basics.specs.TestLaws.{cond_case, eqb_no}
use Rattle.network.specs.Threshold.{Gate, Net, Assignment, bit, frame, output_bits}
use Rattle.network_equivalence.specs.Consistent.{BitsFrom, Ordered, WellFormed}
use Rattle.question_theory.specs.Question.{over_gate}
use Rattle.question_theory.proofs.SolutionLawsGates.{over_bit}
use Rattle.compare_theory.specs.Joint.{Joint, wires_of, weights_of, fanin, gate_of_rows, gate_of, gates_of, Summable, Ready, FitsJoint, OneBit}
use Rattle.compare_theory.proofs.RowLaws.{rows_over}
use Rattle.compare_theory.specs.SideBySide.{both}
use Rattle.compare_theory.proofs.SideBySideLaws.{over_below, first_outputs_lem}
use Rattle.compare_theory.specs.Wiring.{moved, moved_row, with_wires, rewired, StandsFor, Matched, Kept}

-- ---- one row
module _ (p q : ℕ) (row : List ℕ) where
  moved_count : fanin (moved_row p q row) ≡ fanin row
  unfolding moved_row
  moved_count = get_or_tab 0 17 (λ i. cond (eqb i 0) (get_or row i 0) (moved p q (get_or row i 0))) 0 (omega arith)

  moved_signal : (i : ℕ) → i < 16 → get_or (moved_row p q row) (1 + i) 0 ≡ moved p q (get_or row (1 + i) 0)
  unfolding moved_row
  moved_signal i h = get_or_tab 0 17 (λ i. cond (eqb i 0) (get_or row i 0) (moved p q (get_or row i 0))) (1 + i) (omega arith)
      ∙ ap (λ (b : Bool). cond b (get_or row (1 + i) 0) (moved p q (get_or row (1 + i) 0))) (eqb_no (1 + i) 0 (λ e. omega arith))

-- where p and q have one bit, the signal read in the place of s has the bit of s
moved_bit : (ρ : Assignment) (p q : ℕ) → ρ p ≡ ρ q → (s : ℕ) → ρ (moved p q s) ≡ ρ s
unfolding moved
moved_bit ρ p q e s = elim (eqb s q) as (λ t. (T t → s ≡ q) → ρ (cond t p s) ≡ ρ s) [ true ↦ λ k. e ∙ ap ρ (sym (k tt)) | false ↦ λ k. refl ] (eqb→eq s q)

moved_low : (p q n s : ℕ) → p ≤ q → s < n → moved p q s < n
unfolding moved
moved_low p q n s l h = cond_case (λ t. t < n) (eqb s q) (λ t. omega (arith, eqb→eq s q t)) (λ t. h)

ordered_moved : (p q : ℕ) → p ≤ q → (n : ℕ) (gs : List Gate) → Ordered n gs → Ordered n (map (over_gate (moved p q)) gs)
unfolding over_gate
ordered_moved p q l n [] o = tt
ordered_moved p q l n (g ∷ gs) o = (over_below (moved p q) n n (λ s h. moved_low p q n s l h) g.feeds o.0, ordered_moved p q l (suc n) gs o.1)

-- ---- the joint rewired
module _ (p q : ℕ) (J : Joint) (ready : Ready J) where
  row_moved : (g : ℕ) → g < J.gates → wires_of (rewired p q J) g ≡ moved_row p q (wires_of J g)
  row_moved g h = get_d_map (moved_row p q) J.wires g _ _ (omega (arith, ready.within))

  gate_moved : (g : ℕ) → g < J.gates → gate_of (rewired p q J) g ≡ over_gate (moved p q) (gate_of J g)
  gate_moved g h =
      ap (λ (row : List ℕ). gate_of_rows row (weights_of J g)) (row_moved g h)
      ∙ rows_over (moved p q) (wires_of J g) (moved_row p q (wires_of J g)) (weights_of J g) (weights_of J g) (moved_count p q (wires_of J g)) refl
      (λ i k. moved_signal p q (wires_of J g) i (omega (arith, (ready.gate g h).few))) (λ i k. refl)

  moved_there : (s : ℕ) → p < 296 → s < 296 → moved p q s < 296
  unfolding moved
  moved_there s h k = cond_case (λ t. t < 296) (eqb s q) (λ t. h) (λ t. k)

  pub ready_rewired : p < 296 → Ready (rewired p q J)
  ready_rewired l = record {
    few_inputs = ready.few_inputs;
    few_gates = ready.few_gates;
    within = omega (arith, ready.within, length-map J.wires (moved_row p q));
    gate = λ g h.
        let s = ready.gate g h in
        let row = row_moved g h in
        record {
          few = rw (row, moved_count p q (wires_of J g)) s.few;
          there = λ i k.
              let few : i < fanin (wires_of J g) = rw (row, moved_count p q (wires_of J g)) at k in
              rw (row, moved_signal p q (wires_of J g) i (omega (arith, s.few))) (moved_there _ l (s.there i few));
          small = s.small;
        };
  }

  -- what reads an earlier signal instead still reads only signals before it
  pub rewired_ordered : p ≤ q → Ordered J.inputs (gates_of J) → Ordered J.inputs (gates_of (rewired p q J))
  rewired_ordered l o =
      let same : gates_of (rewired p q J) ≡ map (over_gate (moved p q)) (gates_of J) =
      tab_same J.gates (gate_of (rewired p q J)) (λ g. over_gate (moved p q) (gate_of J g)) gate_moved
      ∙ sym (map_tab (over_gate (moved p q)) J.gates (gate_of J)) in
      rw same (ordered_moved p q l J.inputs (gates_of J) o)

  module _ (ρ : Assignment) (e : ρ p ≡ ρ q) where
    rewired_bit : (g : ℕ) → g < J.gates → bit ρ (gate_of (rewired p q J) g) ≡ bit ρ (gate_of J g)
    rewired_bit g h = ap (bit ρ) (gate_moved g h) ∙ over_bit ρ (moved p q) (gate_of J g)
        ∙ ap (λ (σ : Assignment). bit σ (gate_of J g)) (fun_ext (moved_bit ρ p q e))

    -- the same gates' bits, so the same assignments fit
    pub rewired_fits : FitsJoint J ρ → FitsJoint (rewired p q J) ρ
    rewired_fits f =
        let bits : map (bit ρ) (gates_of (rewired p q J)) ≡ map (bit ρ) (gates_of J) =
        map_tab (bit ρ) J.gates (gate_of (rewired p q J))
        ∙ tab_same J.gates (λ g. bit ρ (gate_of (rewired p q J) g)) (λ g. bit ρ (gate_of J g)) rewired_bit
        ∙ sym (map_tab (bit ρ) J.gates (gate_of J)) in
        record { gate_bits = rw bits f.gate_bits }

-- ---- rewiring, one after another
pub kept_same : (J : Joint) (outs : List ℕ) → Kept J outs J outs
kept_same J outs = record { ready = λ r. r; wired = λ n w. w; fits = λ r ρ f. f; bits = λ ρ f j l. refl; long = refl }

pub kept_rewired : (J : Joint) (outs : List ℕ) (p q : ℕ) → p ≤ q → p < 296 → OneBit J p q → (wires' : List (List ℕ)) (outs' : List ℕ)
    → wires' ≡ map (moved_row p q) J.wires → outs' ≡ map (moved p q) outs → Kept J outs (with_wires J wires') outs'
kept_rewired J outs p q b l h wires' outs' e k = record {
  ready = λ r. rw e (ready_rewired p q J r l);
  wired = λ n w. rw (e, k) (record {
    ready = ready_rewired p q J w.ready l;
    ordered = rewired_ordered p q J w.ready b w.ordered;
    room = omega (arith, w.room, length-map outs (moved p q));
    low = λ j i. rw (get_d_map (moved p q) outs j 0 0 (omega (arith, w.room))) (moved_low p q _ _ b (w.low j i));
  });
  fits = λ r ρ f. rw e (rewired_fits p q J r ρ (h.same ρ f) f);
  bits = λ ρ f j i. rw k (ap ρ (get_d_map (moved p q) outs j 0 0 i) ∙ moved_bit ρ p q (h.same ρ f) (get_or outs j 0));
  long = rw k (length-map outs (moved p q));
}

pub kept_then : {J K L : Joint} {outs outs' outs'' : List ℕ} → Ready J → Kept J outs K outs' → Kept K outs' L outs'' → Kept J outs L outs''
kept_then r h k = record {
  ready = λ s. k.ready (h.ready s);
  wired = λ n w. k.wired n (h.wired n w);
  fits = λ s ρ f. k.fits (h.ready s) ρ (h.fits s ρ f);
  bits = λ ρ f j l. k.bits ρ (h.fits r ρ f) j (omega (arith, h.long)) ∙ h.bits ρ f j l;
  long = k.long ∙ h.long;
}

-- one output more
pub matched_more : (n : ℕ) (drivers : List ℕ) (J : Joint) (outs : List ℕ) → Matched n drivers J outs
    → (get_or drivers n 0 ≡ get_or outs n 0) ⊎ OneBit J (get_or drivers n 0) (get_or outs n 0) → Matched (n + 1) drivers J outs
matched_more n drivers J outs m h j l =
    elim (dec_lt j n) as (λ t. (get_or drivers j 0 ≡ get_or outs j 0) ⊎ OneBit J (get_or drivers j 0) (get_or outs j 0))
    [ yes k ↦ m j k | no k ↦ let e : j ≡ n = omega arith in rw e h ]

-- ---- two networks
module _ (A B : Net) (J : Joint) (outs : List ℕ) (s : StandsFor A B J outs) (same : A.inputs ≡ B.inputs) (first : WellFormed A) (second : WellFormed B)
    (many : length A.outputs ≡ length B.outputs) where
  -- the bits of A's outputs on a setting, and of the signals that stand for B's
  pub outputs_same : (ρ : Assignment) → ((j : ℕ) → j < length A.outputs → both A B ρ (get_or A.outputs j 0) ≡ both A B ρ (get_or outs j 0))
      → output_bits A ρ ≡ output_bits B ρ
  unfolding output_bits
  outputs_same ρ h =
      let long : length (map (both A B ρ) A.outputs) ≡ length (output_bits B ρ) = length-map A.outputs (both A B ρ) ∙ many ∙ sym (length-map B.outputs _) in
      sym (first_outputs_lem A B same first second ρ)
      ∙ ext_get_or false (map (both A B ρ) A.outputs) (output_bits B ρ) long λ j l.
      let k : j < length A.outputs = omega (arith, length-map A.outputs (both A B ρ)) in
      get_d_map (both A B ρ) A.outputs j 0 false k ∙ h j k ∙ s.outputs ρ j (omega arith)
