-- Internal: what the parts of the writer put, as lists: the feeds of a gate's places, and the outputs. Nothing is proved here.
use Rattle.std.specs.Prelude.{List, ℕ, ℤ, get_or}
use Rattle.basics.specs.Lists.{tab}
use Rattle.network.specs.Record.{feeds_from}
use Rattle.pmn_format.specs.Format.{feeds_bytes}

-- the first n feeds of a gate's places
unfoldable pub first_feeds : List ℕ → List ℤ → ℕ → List ℕ
first_feeds signals weights n = feeds_bytes (feeds_from signals weights 0 n)

-- the first n outputs
unfoldable pub first_outputs : List ℕ → ℕ → List ℕ
first_outputs drivers n = tab n (λ j. get_or drivers j 0)
