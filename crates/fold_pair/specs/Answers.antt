-- What the pair on a record answers: 20 for a record that is not sound, then the pair of document 01. Nothing is proved here.
use Rattle.std.specs.Prelude.{ℕ}
use Rattle.basics.specs.Refusals.{Answer, accepted, refused}
use Rattle.network.specs.declared.Network.{Network}
use Rattle.fold_theory.specs.Pair.{Pair, pair}
use Rattle.fold_merge.specs.Answers.{on_record}
use Rattle.fold_pair.specs.declared.PairFound.{PairFound}

-- the answer as the call gives it
unfoldable pub as_pair : Answer Pair → PairFound
as_pair (accepted p) = record { code = 0; k = p.k; l = p.l }
as_pair (refused c) = record { code = c; k = 0; l = 0 }

-- the call
unfoldable pub pair_found : Network → ℕ → ℕ → PairFound
pair_found r u v = as_pair (on_record r (λ N. pair N u v))
