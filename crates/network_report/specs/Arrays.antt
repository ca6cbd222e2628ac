-- Internal: what the size report goes by on a record's arrays: the cost of a part. Nothing is proved here.
use Rattle.std.specs.Prelude.{◌≡◌, List, ℕ, ◌*◌, ◌≤◌, ℤ}
use Rattle.network.specs.Record.{feeds_from, gate_from}
use Rattle.network_report.specs.Size.{weights_cost, gate_cost}

-- r is the cost of the weights at count places from base on, whatever signals stand beside them
pub record CostOfWeights (weights : List ℤ) (base count r : ℕ) : Type 0 where
  pub is : (signals : List ℕ) → r ≡ weights_cost (feeds_from signals weights base count)
  pub small : r ≤ count * 2147483648

-- r is the cost of gate g, whatever its signals
pub record CostOfGate (fanins : List ℕ) (thresholds weights : List ℤ) (g r : ℕ) : Type 0 where
  pub is : (signals : List ℕ) → r ≡ gate_cost (gate_from fanins thresholds signals weights g)
  pub small : r ≤ 17 * 2147483648
