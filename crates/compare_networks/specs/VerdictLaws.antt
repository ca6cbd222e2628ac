-- What is settled of the joint of two networks is a verdict on them. Assumes nothing.
use Rattle.std.specs.Prelude.{◌≡◌, refl, Bool, false, List, ℕ, ◌+◌, ◌≤◌, ◌<◌, get_or}
use Rattle.std.proofs.Common.{sym, ap, ◌∙◌, arith}
use Rattle.std.proofs.Math.ListN.{length}
use Rattle.basics.specs.ListLaws.{each_get_or, length_tab}
use Rattle.basics.specs.TableLaws.{get_d_map}
use Rattle.basics.specs.TestLaws.{T_is, is_true}
use Rattle.network.specs.Threshold.{Net, Assignment, frame, output_bits}
use Rattle.network.specs.Record.{net_of, sound_record}
use Rattle.network.specs.RecordLaws.{count_gates, count_outputs, output_within, sound_net}
use Rattle.network.specs.SoundLaws.{sized_of}
use Rattle.network.specs.declared.Network.{Network}
use Rattle.network_equivalence.specs.Consistent.{WellFormed}
use Rattle.network_equivalence.proofs.ConsistentLaws.{fits_one, sound_good}
use Rattle.question_theory.proofs.AlikeLaws.{alike_inputs, alike_outputs}
use Rattle.question_theory.proofs.FrameLaws.{fits_below}
use Rattle.question_lines.specs.Lines.{Comparable}
use Rattle.compare_theory.specs.Joint.{Joint, gate_of, gates_of, FitsJoint}
use Rattle.compare_theory.specs.SideBySide.{both}
use Rattle.compare_theory.proofs.SideBySideLaws.{both_inputs, first_outputs_lem}
use Rattle.compare_theory.specs.Wiring.{StandsFor}
use Rattle.compare_theory.proofs.WiringLaws.{outputs_same}
use Rattle.compare_theory.specs.Verdicts.{Verdict}
use Rattle.compare_lanes.specs.Reading.{SameOutputs}
use Rattle.compare_networks.specs.Settled.{Outputs, Settled, verdict_of, frame_of}
use Rattle.compare_networks.specs.declared.Finding.{Finding}
use Rattle.compare_networks.specs.declared.Finding.TheVariants.{Alike, Apart, Undecided}

module _ (a b : Network) (pair : Comparable a b) where
  abbrev A : Net
  A = net_of a

  abbrev B : Net
  B = net_of b

  inputs : A.inputs ≡ B.inputs
  inputs = alike_inputs A B pair.same_counts

  outputs : length A.outputs ≡ length B.outputs
  outputs = alike_outputs A B pair.same_counts

  good_a : WellFormed A
  good_a = sound_good A (sound_net a (T_is (sound_record a) pair.first_sound))

  good_b : WellFormed B
  good_b = sound_good B (sound_net b (T_is (sound_record b) pair.second_sound))

  -- the signals of the first network's outputs
  driver_is : (j : ℕ) → j < length A.outputs → get_or a.drivers j 0 ≡ get_or A.outputs j 0
  driver_is j h = sym (output_within a j (omega (arith, count_outputs a)))

  module _ (J : Joint) (outs : List ℕ) (s : StandsFor A B J outs) (own : J.inputs ≡ a.inputs) (counts : J.gates ≡ a.gates + b.gates) where
    pub both_outputs : Outputs J a.drivers outs a.outputs
    unfolding net_of
    both_outputs = record {
      wired = record {
        ready = s.wired.ready;
        ordered = s.wired.ordered;
        room = omega (arith, s.wired.room, outputs, count_outputs a);
        low = λ j h. s.wired.low j (omega (arith, outputs, count_outputs a));
      };
      few = (sized_of a pair.first_sound).few_outputs;
      driver = λ j h.
          let k : j < length A.outputs = omega (arith, count_outputs a) in
          let low = each_get_or (λ t. t < A.inputs + length A.gates) A.outputs 0 good_a.within j k in
          omega (arith, driver_is j k, low, count_gates a, own, counts);
    }

    module _ (x : ℕ) where
      -- the joint bits of a frame
      joint_inputs : (i : ℕ) → i < J.inputs → both A B (frame x) i ≡ frame x i
      unfolding net_of
      joint_inputs i h = both_inputs A B inputs good_a good_b (frame x) i (omega arith)

      same_alike : SameOutputs J a.drivers outs a.outputs x → output_bits A (frame x) ≡ output_bits B (frame x)
      same_alike o = outputs_same A B J outs s inputs good_a good_b outputs (frame x) λ j h.
          ap (both A B (frame x)) (sym (driver_is j h)) ∙ o.same (both A B (frame x)) (s.fits (frame x)) joint_inputs j (omega (arith, count_outputs a))

      -- an assignment that fits and has the frame's inputs has the joint bits
      as_joint : (ρ : Assignment) → FitsJoint J ρ → ((i : ℕ) → i < J.inputs → ρ i ≡ frame x i) → (t : ℕ) → t < J.inputs + J.gates
          → ρ t ≡ both A B (frame x) t
      as_joint ρ f e t h = fits_one J.inputs (gates_of J) ρ (both A B (frame x)) s.wired.ordered f.gate_bits (s.fits (frame x)).gate_bits
          (λ i k. e i k ∙ sym (joint_inputs i k)) t (omega (arith, length_tab J.gates (gate_of J)))

      driver_bit : (j : ℕ) → j < length A.outputs → both A B (frame x) (get_or a.drivers j 0) ≡ get_or (output_bits A (frame x)) j false
      driver_bit j h = ap (both A B (frame x)) (driver_is j h) ∙ sym (get_d_map (both A B (frame x)) A.outputs j 0 false h)
          ∙ ap (λ (bits : List Bool). get_or bits j false) (first_outputs_lem A B inputs good_a good_b (frame x))

      alike_same : output_bits A (frame x) ≡ output_bits B (frame x) → SameOutputs J a.drivers outs a.outputs x
      alike_same e = record {
        same = λ ρ f i j h.
            let k : j < length A.outputs = omega (arith, count_outputs a) in
            as_joint ρ f i (get_or a.drivers j 0) (both_outputs.driver j h)
            ∙ driver_bit j k
            ∙ ap (λ (bits : List Bool). get_or bits j false) e
            ∙ sym (s.outputs (frame x) j (omega (arith, outputs)))
            ∙ sym (as_joint ρ f i (get_or outs j 0) (both_outputs.wired.low j h));
      }

    pub settled_verdict : (budget steps : ℕ) (finding : Finding) → Settled J a.drivers outs a.outputs finding → steps ≤ budget
        → Verdict A B budget (verdict_of finding) (frame_of finding) steps
    unfolding net_of
    settled_verdict budget steps Alike t l = record {
      one_of_three = omega arith;
      alike = λ e x f. same_alike x (t x (rw own ((fits_below a.inputs x).0 (T_is _ f))));
      apart = λ e. absurd (omega arith);
      no_frame = λ e. refl;
      decided = λ k e. omega arith;
      few_steps = l;
    }
    settled_verdict budget steps (Apart frame) t l = record {
      one_of_three = omega arith;
      alike = λ e. absurd (omega arith);
      apart = λ e. record { fits = is_true _ ((fits_below a.inputs frame).1 (rw own at t.0)); differ = λ same. t.1 (alike_same frame same) };
      no_frame = λ e. absurd (e refl);
      decided = λ k e. omega arith;
      few_steps = l;
    }
    settled_verdict budget steps Undecided t l = record {
      one_of_three = omega arith;
      alike = λ e. absurd (omega arith);
      apart = λ e. absurd (omega arith);
      no_frame = λ e. refl;
      decided = λ k e. t (omega (arith, own));
      few_steps = l;
    }
