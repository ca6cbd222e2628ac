-- Internal: the gates in the arrays of a sound record. Nothing is proved here.
use Rattle.std.specs.Prelude.{◌≡◌, List, ℕ, ◌≤◌, ◌<◌, ℤ}
use Rattle.basics.specs.Lists.{tab}
use Rattle.network.specs.Threshold.{Gate}
use Rattle.network.specs.Record.{gate_from, gate_record, row_at}
use Rattle.network.specs.Sound.{GatesOk}
use Rattle.network.specs.declared.Network.{Network}

-- the gates
abbrev pub gates_in : List ℕ → List ℤ → List ℕ → List ℤ → ℕ → List Gate
gates_in fanins thresholds signals weights gates = tab gates (gate_from fanins thresholds signals weights)

-- the arrays are those of a sound record: every gate is within the limits, and its places hold it and nothing more
pub record SoundArrays (fanins : List ℕ) (thresholds : List ℤ) (signals : List ℕ) (weights : List ℤ) (inputs gates : ℕ) : Type 0 where
  pub some_inputs : 1 ≤ inputs
  pub few_inputs : inputs ≤ 40
  pub few_gates : gates ≤ 128
  pub all_gates : GatesOk inputs (gates_in fanins thresholds signals weights gates)
  pub rows : (g : ℕ) → g < gates → row_at fanins thresholds signals weights g ≡ gate_record (gate_from fanins thresholds signals weights g)

-- the same of a record
abbrev pub SoundGates : Network → Type 0
SoundGates r = SoundArrays r.fanins r.thresholds r.signals r.weights r.inputs r.gates
