-- Internal: a gate of a record in the form of its places, and stored into them. Nothing is proved here.
use Rattle.std.specs.Prelude.{◌≡◌, ℕ}
use Rattle.network.specs.Record.{row_at}
use Rattle.network.specs.Places.{GateStored}
use Rattle.network.specs.declared.GateRecord.{GateRecord}
use Rattle.network.specs.declared.Network.{Network}

-- the places of gate g
abbrev pub row_in : Network → ℕ → GateRecord
row_in r g = row_at r.fanins r.thresholds r.signals r.weights g

-- new is old with a gate stored as gate g, and nothing else changed
pub record StoredIn (g : ℕ) (gate : GateRecord) (old new : Network) : Type 0 where
  pub arrays : GateStored g gate old.fanins old.thresholds old.signals old.weights new.fanins new.thresholds new.signals new.weights
  pub rest : new ≡ record {
    board = old.board;
    inputs = old.inputs;
    gates = old.gates;
    outputs = old.outputs;
    fanins = new.fanins;
    signals = new.signals;
    weights = new.weights;
    thresholds = new.thresholds;
    drivers = old.drivers;
  }
