-- Internal: the tests of an edge, and the number of the first test that fails. Nothing is proved here.
use Rattle.std.specs.Prelude.{cond, ◌&&◌, List, [], ◌∷◌, ℕ, ◌-◌, ℤ}
use Rattle.basics.specs.Refusals.{Test, ◌else◌}
use Rattle.network.specs.Threshold.{Net}
use Rattle.network.specs.Limits.{gate_signal, is_gate}
use Rattle.network.specs.Changes.{gate_at}
use Rattle.network.specs.Record.{gate_from}
use Rattle.network.specs.declared.Network.{Network}
use Rattle.fold_theory.specs.Merge.{reads}

-- the number of the first test that fails, 0 if none does
unfoldable pub first_failing : List Test → ℕ
first_failing [] = 0
first_failing ((b else c) ∷ ts) = cond b (first_failing ts) c

-- 11 and 12: u and v are gates, and u feeds v
unfoldable pub edge_tests : Net → ℕ → ℕ → List Test
edge_tests N u v = (is_gate N u && is_gate N v else 11) ∷ (reads u (gate_at N v) else 12) ∷ []

-- the same in arrays
unfoldable pub edge_tests_in : List ℕ → List ℤ → List ℕ → List ℤ → ℕ → ℕ → ℕ → ℕ → List Test
edge_tests_in fanins thresholds signals weights inputs gates u v =
    (gate_signal inputs gates u && gate_signal inputs gates v else 11)
    ∷ (reads u (gate_from fanins thresholds signals weights (v - inputs)) else 12) ∷ []

-- the same on a record
abbrev pub edge_tests_at : Network → ℕ → ℕ → List Test
edge_tests_at r u v = edge_tests_in r.fanins r.thresholds r.signals r.weights r.inputs r.gates u v
