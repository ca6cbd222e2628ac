-- Laws of the call on a record: the answer by the number of the first test that fails. Assumes nothing.
use Rattle.std.specs.Prelude.{◌≡◌, refl, true, false, cond, [], ◌∷◌, ℕ, leb, length}
use Rattle.std.proofs.Common.{sym, ap, ◌∙◌}
use Rattle.basics.specs.Refusals.{accepted, refused, ◌else◌, checks}
use Rattle.network.specs.Record.{sound_record}
use Rattle.network.specs.declared.Network.{Network}
use Rattle.fold_theory.specs.Merge.{Edge, distinct, narrow}
use Rattle.pair_theory.specs.Alignments.{alignment_of}
use Rattle.fold_edges.specs.Edges.{edge_in}
use Rattle.fold_edges.specs.Codes.{first_failing, edge_tests_in}
use Rattle.fold_merge.specs.CallLaws.{on_gates, call_broken, call_apart, call_joined}
use Rattle.fold_feeds.specs.declared.DistinctFeeds.{DistinctFeeds}
use Rattle.fold_feeds.specs.Feeds.{feeds_of, feeds, as_feeds, distinct_feeds}
use Rattle.fold_feeds.specs.Parts.{feeds_of_alignment}

-- the distinct feeds are a call on two gates
feeds_call : (r : Network) (u v : ℕ) → distinct_feeds r u v ≡ as_feeds (on_gates feeds_of r u v)
unfolding distinct_feeds feeds
feeds_call r u v = refl

-- those of the aligned gates are those of the two gates
feeds_on_lem : (e : Edge) → feeds_of_alignment (alignment_of e) ≡ as_feeds (feeds_of e)
unfolding feeds_of_alignment feeds_of as_feeds checks narrow alignment_of
feeds_on_lem e = elim (leb (length (distinct e)) 16) as (λ b.
    cond b (record { code = 0; count = length (distinct e); signals = (alignment_of e).signals }) (as_feeds (refused 7))
    ≡ as_feeds (checks ((b else 7) ∷ []) (accepted (distinct e))))
    [ true ↦ refl | false ↦ refl ]

-- ---- a record that is not sound
module _ (r : Network) (s : sound_record r ≡ false) where
  pub feeds_broken : (u v : ℕ) → distinct_feeds r u v ≡ as_feeds (refused 20)
  feeds_broken u v = feeds_call r u v ∙ ap as_feeds (call_broken r s feeds_of u v)

-- ---- a sound record
module _ (r : Network) (s : sound_record r ≡ true) (u v : ℕ) where
  module _ (n : ℕ) (same : n ≡ first_failing (edge_tests_in r.fanins r.thresholds r.signals r.weights r.inputs r.gates u v)) where
    -- 11 or 12
    module _ (other : n ≡ 0 → ⊥) where
      pub feeds_apart : distinct_feeds r u v ≡ as_feeds (refused n)
      feeds_apart = feeds_call r u v ∙ ap as_feeds (call_apart r s u v n same other feeds_of)

    -- u feeds v
    module _ (none : n ≡ 0) where
      pub feeds_joined : {f : DistinctFeeds}
          → f ≡ feeds_of_alignment (alignment_of (edge_in r.board r.fanins r.thresholds r.signals r.weights r.inputs u v))
          → f ≡ distinct_feeds r u v
      feeds_joined h = h ∙ feeds_on_lem _ ∙ sym (feeds_call r u v ∙ ap as_feeds (call_joined r s u v n same none feeds_of))
