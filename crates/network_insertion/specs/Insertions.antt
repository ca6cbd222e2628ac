-- Internal: the records into which a gate can be put. Nothing is proved here.
use Rattle.std.specs.Prelude.{◌≡◌, true, ℕ, ◌+◌, ◌≤◌, ◌<◌}
use Rattle.network.specs.Record.{sound_record}
use Rattle.network.specs.declared.Network.{Network}

-- a sound record with room for one more gate, and the signal of a gate, or the one after the last
pub record Insertable (r : Network) (u : ℕ) : Type 0 where
  pub sound : sound_record r ≡ true
  pub above : r.inputs ≤ u
  pub within : u ≤ r.inputs + r.gates
  pub room : r.gates < 128
