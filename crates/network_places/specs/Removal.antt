-- Internal: a gate taken out of a record in place. Nothing is proved here.
use Rattle.std.specs.Prelude.{◌≡◌, List, map, ℕ, ◌*◌, ◌-◌, ℤ, pos}
use Rattle.network.specs.Changes.{lowered}
use Rattle.network.specs.Places.{without_places}
use Rattle.network.specs.declared.Network.{Network}

-- the new arrays are the old ones without gate g, whose signal is u; "higher signals fall by one"
pub record Removed (g u : ℕ)
    (fanins : List ℕ) (thresholds : List ℤ) (signals : List ℕ) (weights : List ℤ) (drivers : List ℕ)
    (fanins' : List ℕ) (thresholds' : List ℤ) (signals' : List ℕ) (weights' : List ℤ) (drivers' : List ℕ) : Type 0 where
  pub fanins_are : fanins' ≡ without_places 0 128 g 1 fanins
  pub thresholds_are : thresholds' ≡ without_places (pos 0) 128 g 1 thresholds
  pub signals_are : signals' ≡ map (lowered u) (without_places 0 2048 (16 * g) 16 signals)
  pub weights_are : weights' ≡ without_places (pos 0) 2048 (16 * g) 16 weights
  pub drivers_are : drivers' ≡ map (lowered u) drivers

-- new is old without the gate with signal u, and with one gate less
pub record RemovedFrom (u : ℕ) (old new : Network) : Type 0 where
  pub arrays : Removed (u - old.inputs) u old.fanins old.thresholds old.signals old.weights old.drivers
      new.fanins new.thresholds new.signals new.weights new.drivers
  pub rest : new ≡ record {
    board = old.board;
    inputs = old.inputs;
    gates = old.gates - 1;
    outputs = old.outputs;
    fanins = new.fanins;
    signals = new.signals;
    weights = new.weights;
    thresholds = new.thresholds;
    drivers = new.drivers;
  }
