-- Internal: what the parts of the calls promise, on two gates by their distinct feeds: needed by proofs only, no public call cites it. Nothing is
-- proved here.
use Rattle.std.specs.Prelude.{cond, List, ◌∷◌, ℕ, leb, take}
use Rattle.basics.specs.Refusals.{refused}
use Rattle.pair_theory.specs.declared.Alignment.{Alignment}
use Rattle.fold_feeds.specs.declared.DistinctFeeds.{DistinctFeeds}
use Rattle.fold_feeds.specs.Feeds.{as_feeds}

-- the distinct feeds of two gates, or 7
unfoldable pub feeds_of_alignment : Alignment → DistinctFeeds
feeds_of_alignment a = cond (leb a.count 16) (record { code = 0; count = a.count; signals = a.signals }) (as_feeds (refused 7))

-- their number, and their signals after it
abbrev pub feed_places : DistinctFeeds → List ℕ
feed_places d = d.count ∷ take d.count d.signals
