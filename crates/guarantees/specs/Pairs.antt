-- The pair rule, of what the call on a record promises. Document 01, "Pair". Nothing is proved here.
use Rattle.std.specs.Prelude.{◌≡◌, ◌≢◌, true, ℕ}
use Rattle.network.specs.Record.{net_of}
use Rattle.fold_theory.specs.Pair.{Pair}
use Rattle.fold_theory.specs.Guarantee.{HasPair, LeastPair}
use Rattle.call_theory.specs.declared.Call.TheVariants.{Merge}
use Rattle.journal.specs.Records.{sound_whole}
use Rattle.journal.specs.Answers.{applied}
use Rattle.journal.specs.declared.Record.{Record}
use Rattle.journal_calls.specs.Answers.{pair_on}

-- the numbers that the call answers
abbrev pub pair_given : Record → ℕ → ℕ → Pair
pair_given r u v = record { k = (pair_on r u v).k; l = (pair_on r u v).l }

-- "the k and l with the least k + l, then the least k, that qualify", whose merge is accepted; "16 only if none of the 1,024 qualifies", only
-- those with k and l from 1 to 32 being within the limits; where one qualifies on a sound record, a pair is given; no numbers with a refusal
pub record PairClaim (r : Record) (u v : ℕ) : Type 0 where
  pub least : (pair_on r u v).code ≡ 0 → LeastPair (net_of r.network) u v (pair_given r u v)
  pub merges : (pair_on r u v).code ≡ 0 → (applied r (Merge u v (pair_on r u v).k (pair_on r u v).l)).code ≡ 0
  pub none : (pair_on r u v).code ≡ 16 → HasPair (net_of r.network) u v → ⊥
  pub given : sound_whole r ≡ true → HasPair (net_of r.network) u v → (pair_on r u v).code ≡ 0
  pub no_numbers : (pair_on r u v).code ≢ 0 → ((pair_on r u v).k ≡ 0) × ((pair_on r u v).l ≡ 0)
