-- Laws of a pair on a record: the answer by the number of the first test that fails, and the pair of two gates by their distinct feeds.
-- Assumes nothing.
use Rattle.std.specs.Prelude.{◌≡◌, Bool, [], ◌∷◌, ℕ, ◌≤◌, T, leb, length}
use Rattle.std.proofs.Math.Path.{refl}
use Rattle.std.proofs.Common.{sym, ap, ◌∙◌, leb→le}
use Rattle.std.proofs.Math.Bool.{true, false}
use Rattle.basics.specs.Refusals.{Answer, refused, ◌else◌, checks}
use Rattle.network.specs.Record.{sound_record}
use Rattle.network.specs.declared.Network.{Network}
use Rattle.fold_theory.specs.Merge.{Edge, distinct, narrow}
use Rattle.fold_theory.specs.Pair.{pairs, qualifies, first, pair_tests, pair_of, pair}
use Rattle.fold_theory.specs.Aligned.{Aligned, qualifies_on}
use Rattle.fold_theory.proofs.AlignedLaws.{EdgeOk, first_on}
use Rattle.pair_theory.specs.Alignments.{alignment_of, aligned_in}
use Rattle.pair_theory.proofs.AlignmentLaws.{aligned_in_lem}
use Rattle.fold_edges.specs.Edges.{edge_in}
use Rattle.fold_edges.specs.Codes.{first_failing, edge_tests_in}
use Rattle.fold_merge.specs.CallLaws.{on_gates, call_broken, call_apart, call_joined}
use Rattle.fold_pair.specs.Answers.{as_pair, pair_found}
use Rattle.fold_pair.specs.Parts.{pair_of_alignment}

-- the pair is a call on two gates
pair_call : (r : Network) (u v : ℕ) → pair_found r u v ≡ as_pair (on_gates pair_of r u v)
unfolding pair_found pair
pair_call r u v = refl

-- a record that is not sound
pub pair_broken : (r : Network) → sound_record r ≡ false → (u v : ℕ) → pair_found r u v ≡ as_pair (refused 20)
pair_broken r s u v = pair_call r u v ∙ ap as_pair (call_broken r s pair_of u v)

-- a sound record, n being the number of the first test of u and v that fails
module _ (r : Network) (s : sound_record r ≡ true) (u v n : ℕ)
    (same : n ≡ first_failing (edge_tests_in r.fanins r.thresholds r.signals r.weights r.inputs r.gates u v)) where
  pub pair_apart : (n ≡ 0 → ⊥) → pair_found r u v ≡ as_pair (refused n)
  pair_apart other = pair_call r u v ∙ ap as_pair (call_apart r s u v n same other pair_of)

  pub pair_joined : n ≡ 0 → pair_found r u v ≡ as_pair (pair_of (edge_in r.board r.fanins r.thresholds r.signals r.weights r.inputs u v))
  pair_joined none = pair_call r u v ∙ ap as_pair (call_joined r s u v n same none pair_of)

-- ---- two gates by their distinct feeds
module _ (e : Edge) (ok : EdgeOk e) where
  -- the first pair, where 7 does not apply
  first_is : length (distinct e) ≤ 16 → first (qualifies_on (aligned_in (alignment_of e))) pairs 16 ≡ first (qualifies e) pairs 16
  first_is few = ap (λ (a : Aligned). first (qualifies_on a) pairs 16) (aligned_in_lem e few) ∙ sym (first_on e ok)

  after_checks : {A : Type 0} (b : Bool) (c : ℕ) {r q : Answer A} → (T b → r ≡ q) → checks ((b else c) ∷ []) r ≡ checks ((b else c) ∷ []) q
  unfolding checks
  after_checks true c h = h tt
  after_checks false c h = refl

  pub pair_on_lem : pair_of_alignment (alignment_of e) ≡ pair_of e
  unfolding pair_of_alignment pair_of pair_tests narrow alignment_of
  pair_on_lem = after_checks (leb (length (distinct e)) 16) 7 (λ t. first_is (leb→le (length (distinct e)) 16 t))
