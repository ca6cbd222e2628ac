-- Internal: what a sweep remembers: for each gate, by its number, a reader that refuses it. Nothing is proved here.
use Rattle.std.specs.Prelude.{◌≡◌, Option, Some, List, ℕ, ◌+◌, ◌<◌, length, get_or}
use Rattle.network.specs.Threshold.{Net}
use Rattle.network.specs.declared.Network.{Network}
use Rattle.fold_unchanged.specs.Unchanged.{RefusedBy}
use Rattle.fold_reader_pairs.specs.Collapsing.{collapsed_by}
use Rattle.fold_sweep.specs.declared.Choice.{Choice}

-- a number for each gate: below 128 it is that of a reader that refuses the gate
pub record Remembered (N : Net) (refusers : List ℕ) : Type 0 where
  pub long : length refusers ≡ 128
  pub each : (g : ℕ) → g < length N.gates → get_or refusers g 0 < 128 → RefusedBy N (N.inputs + g) (N.inputs + get_or refusers g 0)

-- where a gate is chosen, the same of the network after its collapse
pub record RememberedAfter (r : Network) (m : Option Choice) (refusers : List ℕ) : Type 0 where
  pub next : (x : Choice) → m ≡ Some x → Remembered (collapsed_by r x.u x.pairs) refusers
