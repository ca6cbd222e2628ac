-- What is shown of the joint rewired, or read on it, is so of the joint as it was. Assumes nothing.
use Rattle.std.specs.Prelude.{◌≡◌, List, [], ℕ, ◌+◌, ◌^◌, ◌<◌, get_or}
use Rattle.std.proofs.Common.{sym, ap, ◌∙◌, ⊎_elim, arith}
use Rattle.basics.specs.ListLaws.{length_tab}
use Rattle.network.specs.Threshold.{Net, Assignment, frame, values}
use Rattle.network_equivalence.specs.Consistent.{WellFormed}
use Rattle.network_equivalence.proofs.ConsistentLaws.{fits_one, values_fit, values_inputs}
use Rattle.compare_theory.specs.Joint.{Joint, gate_of, gates_of, FitsJoint}
use Rattle.compare_theory.specs.Wiring.{Kept, Matched}
use Rattle.compare_lanes.specs.Reading.{SameOutputs}
use Rattle.compare_merging.specs.Merging.{Merged}
use Rattle.compare_networks.specs.Settled.{Outputs, Settled}
use Rattle.compare_networks.specs.declared.Finding.{Finding}
use Rattle.compare_networks.specs.declared.Finding.TheVariants.{Alike, Apart, Undecided}

-- one assignment fits a joint on a frame
module _ {J : Joint} {drivers outs : List ℕ} {n : ℕ} (o : Outputs J drivers outs n) where
  abbrev net : Net
  net = record { board = record { version = 0; on = 0; off = 0 }; inputs = J.inputs; gates = gates_of J; outputs = [] }

  good : WellFormed net
  good = record { ordered = o.wired.ordered; within = tt }

  abbrev on_frame : ℕ → Assignment
  on_frame x = values net (frame x)

  frame_fits : (x : ℕ) → FitsJoint J (on_frame x)
  frame_fits x = record { gate_bits = values_fit net (frame x) good }

  frame_inputs : (x i : ℕ) → i < J.inputs → on_frame x i ≡ frame x i
  frame_inputs x i h = values_inputs net (frame x) i h

  one_fits : (x : ℕ) (ρ : Assignment) → FitsJoint J ρ → (σ : Assignment) → FitsJoint J σ → ((i : ℕ) → i < J.inputs → ρ i ≡ σ i)
      → (s : ℕ) → s < J.inputs + J.gates → ρ s ≡ σ s
  one_fits x ρ f σ g e s l = fits_one J.inputs (gates_of J) ρ σ o.wired.ordered f.gate_bits g.gate_bits e s
      (omega (arith, length_tab J.gates (gate_of J)))

-- ---- the joint before and after
module _ {J : Joint} {drivers outs : List ℕ} {n : ℕ} (o : Outputs J drivers outs n) {J' : Joint} {outs' : List ℕ} (m : Merged J outs J' outs') where
  abbrev k : Kept J outs J' outs'
  k = m.kept

  inputs_same : J'.inputs ≡ J.inputs
  inputs_same = ap (λ (K : Joint). K.inputs) m.same

  gates_same : J'.gates ≡ J.gates
  gates_same = ap (λ (K : Joint). K.gates) m.same

  pub outputs_kept : Outputs J' drivers outs' n
  outputs_kept = record { wired = k.wired n o.wired; few = o.few; driver = λ j l. omega (arith, o.driver j l, inputs_same, gates_same) }

  out_bit : (ρ : Assignment) → FitsJoint J ρ → (j : ℕ) → j < n → ρ (get_or outs' j 0) ≡ ρ (get_or outs j 0)
  out_bit ρ f j l = k.bits ρ f j (omega (arith, o.wired.room))

  same_before : (x : ℕ) → SameOutputs J' drivers outs' n x → SameOutputs J drivers outs n x
  same_before x s = record {
    same = λ ρ f e j l. s.same ρ (k.fits o.wired.ready ρ f) (λ i h. e i (omega (arith, inputs_same))) j l ∙ out_bit ρ f j l;
  }

  same_after : (x : ℕ) → SameOutputs J drivers outs n x → SameOutputs J' drivers outs' n x
  same_after x s = record {
    same = λ ρ f e j l.
        let σ = on_frame o x in
        let g = frame_fits o x in
        let one = one_fits outputs_kept x ρ f σ (k.fits o.wired.ready σ g)
        (λ i h. e i h ∙ sym (frame_inputs o x i (omega (arith, inputs_same)))) in
        one (get_or drivers j 0) (outputs_kept.driver j l)
        ∙ s.same σ g (frame_inputs o x) j l
        ∙ sym (out_bit σ g j l)
        ∙ sym (one (get_or outs' j 0) (outputs_kept.wired.low j l));
  }

  -- ---- what is settled

  -- all outputs are matched
  pub matched_settled : Matched n drivers J' outs' → (x : ℕ) → x < 2 ^ J.inputs → SameOutputs J drivers outs n x
  matched_settled a x l = same_before x (record { same = λ ρ f i j h. ⊎_elim (λ q. ap ρ q) (λ b. b.same ρ f) (a j h) })

  -- what is read on the joint merged
  pub settled_before : (finding : Finding) → Settled J' drivers outs' n finding → Settled J drivers outs n finding
  settled_before Alike s = λ x l. same_before x (s x (rw inputs_same l))
  settled_before (Apart x) s = (rw inputs_same at s.0, λ t. s.1 (same_after x t))
  settled_before Undecided s = λ l. s (omega (arith, inputs_same))
