-- Internal: a gate taken out of the places of a record. Nothing is proved here.
use Rattle.std.specs.Prelude.{◌≡◌, ℕ}
use Rattle.network.specs.declared.Network.{Network}
use Rattle.network_places.specs.Removal.{Removed}

-- new is old without the places of gate g, whose signal is u; the board and the counts stay
pub record PlacesRemoved (g u : ℕ) (old new : Network) : Type 0 where
  pub arrays : Removed g u old.fanins old.thresholds old.signals old.weights old.drivers
      new.fanins new.thresholds new.signals new.weights new.drivers
  pub rest : new ≡ record {
    board = old.board;
    inputs = old.inputs;
    gates = old.gates;
    outputs = old.outputs;
    fanins = new.fanins;
    signals = new.signals;
    weights = new.weights;
    thresholds = new.thresholds;
    drivers = new.drivers;
  }
