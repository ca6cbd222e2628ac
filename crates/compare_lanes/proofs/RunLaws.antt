-- The inputs put into the lanes, row by row, and the gates that are left to run. Assumes nothing.
use mathlib.Core.Path.{◌≡◌, refl, sym, ap, ◌∙◌}
use mathlib.Core.List.{List, map}
use Prim.Native.Nat.{ℕ, ◌+◌, ◌-◌, ◌≤◌, ◌<◌}
use native.Mathlib.Decide.{dec_lt}
use native.Mathlib.Numerals.{add-one}
use native.Mathlib.Omega.{arith}
use lib.IntN.{ℤ}
use Rattle.basics.specs.Lists.{range}
use Rattle.network.specs.Threshold.{Gate, Assignment, bit, assign, run, frame}
use Rattle.network_equivalence.proofs.ConsistentLaws.{assign_same, assign_other}
use Rattle.compare_theory.specs.Joint.{Joint, gate_of, gates_of}
use Rattle.compare_lanes.specs.Lanes.{lane_bits, Masked, LanesPut, FramesPut, GatesRun}

-- ---- the inputs
pub frames_none : {lanes : List (List ℤ)} (first : ℕ) → Masked lanes → FramesPut 0 first lanes
frames_none first m = record { masked = m; bits = λ f l i k. absurd (omega arith) }

pub frames_next : {i first : ℕ} {old new : List (List ℤ)} → FramesPut i first old → LanesPut i (λ f. frame (first + f) i) old new
    → FramesPut (i + 1) first new
frames_next {i} {first} {old} {new} h p = record {
  masked = p.masked;
  bits = λ f l s k.
      let b = frame (first + f) i in
      let put : lane_bits new f s ≡ assign (lane_bits old f) i b s = ap (λ (ρ : Assignment). ρ s) (p.bits f l) in
      elim (dec_lt s i) as (λ t. lane_bits new f s ≡ frame (first + f) s) [
        | yes j ↦ put ∙ assign_other (lane_bits old f) i b s (λ e. omega arith) ∙ h.bits f l s j
        | no j ↦
            let e : s ≡ i = omega arith in
            put ∙ ap (assign (lane_bits old f) i b) e ∙ assign_same (lane_bits old f) i b ∙ ap (frame (first + f)) (sym e)
      ];
}

-- ---- the gates

-- in each lane the gates from g on are left
pub record GatesLeft (J : Joint) (old : List (List ℤ)) (g : ℕ) (lanes : List (List ℤ)) : Type 0 where
  pub masked : Masked lanes
  pub left : (f : ℕ) → f < 32
      → run (J.inputs + g) (map (gate_of J) (range g (J.gates - g))) (lane_bits lanes f) ≡ run J.inputs (gates_of J) (lane_bits old f)

run_none : (gate : ℕ → Gate) (n g m : ℕ) (ρ : Assignment) → m ≡ 0 → run n (map gate (range g m)) ρ ≡ ρ
unfolding run range
run_none gate n g m ρ e = rw e

run_next : (gate : ℕ → Gate) (n k g h m l : ℕ) (ρ : Assignment) → k ≡ n + 1 → h ≡ g + 1 → m ≡ l + 1
    → run n (map gate (range g m)) ρ ≡ run k (map gate (range h l)) (assign ρ n (bit ρ (gate g)))
unfolding run range
run_next gate n k g h m l ρ e d f = simp (e, d, f, add-one)

module _ (J : Joint) where
  pub left_none : {lanes : List (List ℤ)} → Masked lanes → GatesLeft J lanes 0 lanes
  left_none m = record {
    masked = m;
    left = λ f l. rw (let e : J.inputs + 0 ≡ J.inputs = omega arith in e, let d : J.gates - 0 ≡ J.gates = omega arith in d);
  }

  pub left_next : {old lanes new : List (List ℤ)} {g : ℕ} → GatesLeft J old g lanes → g < J.gates
      → LanesPut (J.inputs + g) (λ f. bit (lane_bits lanes f) (gate_of J g)) lanes new → GatesLeft J old (g + 1) new
  left_next {old} {lanes} {new} {g} h k p = record {
    masked = p.masked;
    left = λ f l. rw (p.bits f l) (sym (run_next (gate_of J) (J.inputs + g) (J.inputs + (g + 1)) g (g + 1) (J.gates - g) (J.gates - (g + 1))
        (lane_bits lanes f) (omega arith) refl (omega arith)) ∙ h.left f l);
  }

  pub left_all : {old lanes : List (List ℤ)} {g : ℕ} → GatesLeft J old g lanes → J.gates ≤ g → GatesRun J old lanes
  left_all {old} {lanes} {g} h k = record {
    masked = h.masked;
    bits = λ f l. sym (run_none (gate_of J) (J.inputs + g) g (J.gates - g) (lane_bits lanes f) (omega arith)) ∙ h.left f l;
  }
