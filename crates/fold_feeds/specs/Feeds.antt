-- The distinct feeds of two gates, as a call gives them. Document 02, No. 9: "the distinct signal i, counted from 0 in rising order".
-- Nothing is proved here.
use Rattle.std.specs.Prelude.{List, [], ◌∷◌, ℕ, length}
use Rattle.basics.specs.Lists.{places}
use Rattle.basics.specs.Refusals.{Answer, accepted, refused, ◌else◌, checks}
use Rattle.network.specs.Threshold.{Net}
use Rattle.network.specs.declared.Network.{Network}
use Rattle.fold_theory.specs.Merge.{Edge, edge, distinct, narrow, feed_tests}
use Rattle.fold_merge.specs.Answers.{on_record}
use Rattle.fold_feeds.specs.declared.DistinctFeeds.{DistinctFeeds}

-- 7 of two gates
unfoldable pub feeds_of : Edge → Answer (List ℕ)
feeds_of e = checks ((narrow e else 7) ∷ []) (accepted (distinct e))

-- order 20, 11, 12, 7
unfoldable pub feeds : Net → ℕ → ℕ → Answer (List ℕ)
feeds N u v = checks (feed_tests N u v) (feeds_of (edge N u v))

-- the answer as the call gives it; a refusal has "0 for every other number"
unfoldable pub as_feeds : Answer (List ℕ) → DistinctFeeds
as_feeds (accepted ds) = record { code = 0; count = length ds; signals = places 16 0 ds }
as_feeds (refused c) = record { code = c; count = 0; signals = places 16 0 [] }

-- the call
unfoldable pub distinct_feeds : Network → ℕ → ℕ → DistinctFeeds
distinct_feeds r u v = as_feeds (on_record r (λ N. feeds N u v))
