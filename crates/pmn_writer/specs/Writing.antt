-- Internal: what the writer puts after the header, as a list: the gates of a record's arrays. Nothing is proved here.
use Rattle.std.specs.Prelude.{List, ℕ, zero, suc, ◌+◌, ◌*◌, ℤ, get_or}
use Rattle.basics.specs.Lists.{tab}
use Rattle.network.specs.Record.{gate_from}
use Rattle.pmn_format.specs.Format.{gates_bytes}

-- the first n gates of a record's arrays
unfoldable pub first_gates : List ℕ → List ℤ → List ℕ → List ℤ → ℕ → List ℕ
first_gates fanins thresholds signals weights n = gates_bytes (tab n (gate_from fanins thresholds signals weights))

-- how many bytes these gates have: 5 for each, and 5 for each feed
unfoldable pub gates_length : List ℕ → ℕ → ℕ
gates_length fanins zero = 0
gates_length fanins (suc g) = gates_length fanins g + (5 + 5 * get_or fanins g 0)
