-- Pairs are as claimed. Assumes nothing.
use Rattle.std.specs.Prelude.{◌≡◌, ℕ}
use Rattle.basics.specs.Refusals.{accepted, refused}
use Rattle.network.specs.Threshold.{Net}
use Rattle.network.specs.Changes.{with_gate}
use Rattle.fold_theory.specs.Merge.{edge, merged, merge}
use Rattle.fold_theory.specs.Pair.{Pair, pair}
use Rattle.fold_theory.specs.Guarantee.{HasPair, LeastPair}
use Rattle.fold_theory.proofs.PairLaws.{pair_least, pair_given_lem, pair_none}
use Rattle.fold_theory.proofs.StepLaws.{merge_exact}

-- the pair of a network is the least that qualifies, and its merge is accepted; 16 only if none qualifies; and if one does, a pair is given
pub record PairClaim (N : Net) (u v : ℕ) : Type 0 where
  pub least : (p : Pair) → pair N u v ≡ accepted p → LeastPair N u v p
  pub merges : (p : Pair) → pair N u v ≡ accepted p → merge N u v p.k p.l ≡ accepted (with_gate N v (merged (edge N u v) p.k p.l))
  pub none : pair N u v ≡ refused 16 → HasPair N u v → ⊥
  pub given : HasPair N u v → (p : Pair) × (pair N u v ≡ accepted p)

pub pair_claim : (N : Net) (u v : ℕ) → PairClaim N u v
pair_claim N u v = record {
  least = pair_least N u v;
  merges = λ p h. let q = (pair_least N u v p h).qualified in (merge_exact N u v p.k p.l q.0).1 (q.1, q.2);
  none = pair_none N u v;
  given = pair_given_lem N u v;
}
