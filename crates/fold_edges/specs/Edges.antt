-- Internal: two gates in the arrays of a sound record. Nothing is proved here.
use Rattle.std.specs.Prelude.{List, ℕ, ◌-◌, T, ℤ}
use Rattle.network.specs.Record.{gate_from}
use Rattle.network.specs.Sound.{HasSignal}
use Rattle.network.specs.declared.Board.{Board}
use Rattle.network.specs.declared.Network.{Network}
use Rattle.fold_theory.specs.Merge.{Edge, edge_of, reads}

-- gates u and v, by their signals, as an edge on a board
abbrev pub edge_in : Board → List ℕ → List ℤ → List ℕ → List ℤ → ℕ → ℕ → ℕ → Edge
edge_in b fanins thresholds signals weights inputs u v =
    edge_of b u v (gate_from fanins thresholds signals weights (u - inputs)) (gate_from fanins thresholds signals weights (v - inputs))

-- v reads u, both being gates
pub record GateReads (fanins : List ℕ) (thresholds : List ℤ) (signals : List ℕ) (weights : List ℤ) (inputs gates u v : ℕ) : Type 0 where
  pub u_gate : HasSignal inputs gates u
  pub v_gate : HasSignal inputs gates v
  pub joined : T (reads u (gate_from fanins thresholds signals weights (v - inputs)))

-- ---- the same on a record

abbrev pub edge_at : Network → ℕ → ℕ → Edge
edge_at r u v = edge_in r.board r.fanins r.thresholds r.signals r.weights r.inputs u v

abbrev pub ReadsIn : Network → ℕ → ℕ → Type 0
ReadsIn r u v = GateReads r.fanins r.thresholds r.signals r.weights r.inputs r.gates u v
