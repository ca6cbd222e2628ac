-- The number, and 0 in every place. Assumes nothing.
use Rattle.basics.specs.PlaceLaws.{places_none}
use Rattle.fold_feeds.specs.Feeds.{as_feeds}
use Rattle.fold_feeds.proofs.unchecked.no_feeds.Goals as goal

pub returns : goal.returns
unfolding as_feeds
returns c = λ j. record { code = c.args.code; count = 0; signals = places_none 16 0 j }
