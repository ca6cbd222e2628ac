-- Internal: two gates after another gate is gone, their pair by what the pair search works on, and a gate that one of its readers refuses.
-- Nothing is proved here.
use Rattle.std.specs.Prelude.{[], ◌∷◌, ◌≢◌, ℕ, T, leb, length}
use Rattle.basics.specs.Refusals.{Answer, ◌else◌, checks}
use Rattle.basics.specs.RefusalLaws.{Refused}
use Rattle.network.specs.Threshold.{Net}
use Rattle.network.specs.Changes.{gate_at, lowered, lowered_gate}
use Rattle.network.specs.Sound.{Has}
use Rattle.fold_theory.specs.Merge.{Edge, edge_of, edge, reads}
use Rattle.fold_theory.specs.Pair.{Pair, pairs, first, pair_of}
use Rattle.fold_theory.specs.Aligned.{Aligned, qualifies_on}
use Rattle.fold_theory.proofs.LowerLaws.{DoesNotRead}

-- the two gates of an edge after the gate with signal gone is gone
unfoldable pub lowered_edge : ℕ → Edge → Edge
lowered_edge gone e =
    edge_of e.board (lowered gone e.u) (lowered gone e.v) (lowered_gate gone e.gate_u) (lowered_gate gone e.gate_v)

-- neither of the two is that gate, and neither reads it
pub record NeitherReads (gone : ℕ) (e : Edge) : Type 0 where
  pub u_other : e.u ≢ gone
  pub v_other : e.v ≢ gone
  pub u_free : DoesNotRead gone e.gate_u
  pub v_free : DoesNotRead gone e.gate_v

-- 7 and 16 of two gates by their distinct feeds
unfoldable pub pair_of_aligned : Aligned → Answer Pair
pair_of_aligned a = checks ((leb (length a.us) 16 else 7) ∷ []) (first (qualifies_on a) pairs 16)

-- gate v reads gate u, and the two have no pair
pub record RefusedBy (N : Net) (u v : ℕ) : Type 0 where
  pub gate : Has N u
  pub reader : Has N v
  pub joined : T (reads u (gate_at N v))
  pub refusal : Refused (pair_of (edge N u v))
