-- Laws of the call on a record: the answer by the number of the first test that fails. Assumes nothing.
use Rattle.std.specs.Prelude.{◌≡◌, refl, true, false, not, ℕ, ◌^◌, T, length}
use Rattle.std.proofs.Common.{sym, ◌∙◌, subst}
use native.Mathlib.Omega.{arith}
use Rattle.std.proofs.Math.Decide.{dec_lt}
use Rattle.basics.specs.TestLaws.{is_true, is_false, test_case}
use Rattle.network.specs.Record.{net_of, sound_record}
use Rattle.network.specs.SoundLaws.{sound_board}
use Rattle.network.specs.declared.Network.{Network}
use Rattle.fold_theory.specs.Merge.{Edge, edge, distinct, agrees_at}
use Rattle.fold_theory.proofs.AlignedLaws.{EdgeOk}
use Rattle.pair_theory.specs.Alignments.{alignment_of}
use Rattle.fold_readers.specs.ArrayLaws.{lent_of}
use Rattle.fold_edges.specs.Edges.{edge_in}
use Rattle.fold_edges.specs.EdgeLaws.{joined_ok}
use Rattle.fold_edges.specs.Codes.{first_failing, edge_tests_in}
use Rattle.fold_edges.specs.CodeLaws.{code_never}
use Rattle.fold_merge.specs.Answers.{merge_code}
use Rattle.fold_merge.specs.CallLaws.{apart_none, merge_broken, code_apart, here_is, merge_number_lem}
use Rattle.fold_witness.specs.declared.Witnessed.{Witnessed}
use Rattle.fold_witness.specs.Witness.{Shows, WitnessOf}
use Rattle.fold_witness.specs.Parts.{no_witness, WitnessOfAlignment}
use Rattle.fold_witness.specs.WitnessLaws.{none_shows, aligned_shows}

-- ---- a record that is not sound
module _ (r : Network) (s : sound_record r ≡ false) where
  pub witness_broken : (u v k l : ℕ) {w : Witnessed} → w ≡ no_witness 20 → WitnessOf r u v k l w
  witness_broken u v k l h = rw (merge_broken r s u v k l) (none_shows 20 _ _ (λ (q : 20 ≡ 15). absurd (omega arith)) h)

-- ---- a sound record
module _ (r : Network) (s : sound_record r ≡ true) (u v : ℕ) where
  module _ (n : ℕ) (same : n ≡ first_failing (edge_tests_in r.fanins r.thresholds r.signals r.weights r.inputs r.gates u v)) where
    -- 11 or 12
    module _ (other : n ≡ 0 → ⊥) where
      -- neither is 15
      apart_other : n ≡ 15 → ⊥
      unfolding edge_tests_in
      apart_other q =
          let tests = edge_tests_in r.fanins r.thresholds r.signals r.weights r.inputs r.gates u v in
          code_never 15 tests (omega arith, (omega arith, tt)) (λ (z : 15 ≡ 0). absurd (omega arith)) (sym same ∙ q)

      pub witness_apart : (k l : ℕ) {w : Witnessed} → w ≡ no_witness n → WitnessOf r u v k l w
      witness_apart k l h = rw (code_apart r s u v n same other k l) (none_shows n _ _ apart_other h)

    -- u feeds v
    module _ (none : n ≡ 0) where
      abbrev fed : Edge
      fed = edge_in r.board r.fanins r.thresholds r.signals r.weights r.inputs u v

      pub witness_joined : EdgeOk fed → (k l : ℕ) {w : Witnessed} → WitnessOfAlignment (alignment_of fed) k l w → WitnessOf r u v k l w
      witness_joined ok k l {w} h =
          subst (λ (e : Edge). Shows (merge_code r u v k l) (2 ^ length (distinct e)) (agrees_at e k l) w) (here_is r s u v n same none)
          (subst (λ (m : ℕ). Shows m (2 ^ length (distinct fed)) (agrees_at fed k l) w) (sym (merge_number_lem r s u v n same none k l))
          (aligned_shows fed ok k l h))

-- ---- a merge that is refused with 15
pub disagreeing_edge : (r : Network) (u v k l : ℕ) → merge_code r u v k l ≡ 15 → EdgeOk (edge (net_of r) u v)
disagreeing_edge r u v k l e = test_case (sound_record r) sound_one broken_one
  where
    broken_one : T (not (sound_record r)) → EdgeOk (edge (net_of r) u v)
    broken_one t =
        let twenty = merge_broken r (is_false (sound_record r) t) u v k l in
        absurd (omega (arith, sym twenty ∙ e))

    sound_one : T (sound_record r) → EdgeOk (edge (net_of r) u v)
    sound_one t =
        let s = is_true (sound_record r) t in
        let n = first_failing (edge_tests_in r.fanins r.thresholds r.signals r.weights r.inputs r.gates u v) in
        elim (dec_lt 0 n) as (λ d. EdgeOk (edge (net_of r) u v)) [
          | yes h ↦
              let other : n ≡ 0 → ⊥ = λ z. absurd (omega (arith, h, z)) in
              absurd (apart_other r s u v n refl other (sym (code_apart r s u v n refl other k l) ∙ e))
          | no h ↦
              let none : n ≡ 0 = omega (arith, h) in
              subst EdgeOk (here_is r s u v n refl none) (joined_ok (lent_of r t) (apart_none r s u v n refl none) (sound_board r s))
        ]
