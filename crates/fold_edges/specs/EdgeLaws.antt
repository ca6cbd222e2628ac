-- Laws of two gates in arrays: what they have, that they can be aligned, and that those of a sound record are those of its
-- network. Assumes nothing.
use Rattle.std.specs.Prelude.{◌≡◌, Bool, ◌&&◌, List, [], ◌∷◌, ℕ, ◌+◌, ◌-◌, ◌<◌, T, ℤ}
use Rattle.std.proofs.Math.Path.{refl, sym, ap, ap₂}
use Rattle.std.proofs.Common.{◌∙◌, subst, arith}
use Rattle.std.proofs.Math.Bool.{true, false}
use Rattle.basics.specs.Refusals.{◌else◌, Passed}
use Rattle.basics.specs.TestLaws.{T_and}
use Rattle.network.specs.Threshold.{Gate}
use Rattle.network.specs.Limits.{board_ok, gate_signal}
use Rattle.network.specs.Sound.{GateOk, HasSignal}
use Rattle.network.specs.LimitLaws.{signal_of_lem}
use Rattle.network.specs.Changes.{gate_at}
use Rattle.network.specs.Record.{gate_from, gate_in, net_of, row_at}
use Rattle.network.specs.PlaceLaws.{gate_in_gate_record}
use Rattle.network.specs.RecordLaws.{gate_signal_lem, gate_within}
use Rattle.network.specs.declared.Board.{Board}
use Rattle.network.specs.declared.Network.{Network}
use Rattle.network.specs.declared.GateRecord.{GateRecord}
use Rattle.fold_theory.specs.Merge.{edge, reads, edge_of}
use Rattle.fold_theory.proofs.AlignedLaws.{EdgeOk}
use Rattle.pair_theory.specs.Alignments as alignments
use Rattle.pair_theory.specs.Alignments.{Alignable}
use Rattle.fold_readers.specs.Arrays.{SoundArrays}
use Rattle.fold_readers.specs.ArrayLaws.{lent_gate}
use Rattle.fold_edges.specs.Edges.{edge_in, GateReads}
use Rattle.fold_edges.specs.Codes.{first_failing, edge_tests, edge_tests_in}

-- ---- gates in arrays

module _ {fanins : List ℕ} {thresholds : List ℤ} {signals : List ℕ} {weights : List ℤ} {inputs gates : ℕ}
    (l : SoundArrays fanins thresholds signals weights inputs gates) where
  -- a gate by its signal: it has a place, and is within the limits
  pub signal_place : (s : ℕ) → HasSignal inputs gates s → s - inputs < 128
  signal_place s w = omega (arith, w, l.few_gates)

  signal_gate : (s : ℕ) → HasSignal inputs gates s → GateOk s (gate_from fanins thresholds signals weights (s - inputs))
  signal_gate s w = subst (λ n. GateOk n (gate_from fanins thresholds signals weights (s - inputs))) (let e : inputs + (s - inputs) ≡ s = omega (arith, w) in e)
      (lent_gate l (s - inputs) (omega (arith, w)))

  -- its places stand for it
  signal_row : (s : ℕ) → HasSignal inputs gates s
      → gate_in (row_at fanins thresholds signals weights (s - inputs)) ≡ gate_from fanins thresholds signals weights (s - inputs)
  signal_row s w = ap gate_in (l.rows (s - inputs) (omega (arith, w))) ∙ gate_in_gate_record (gate_from fanins thresholds signals weights (s - inputs))
      (signal_gate s w).few

  -- two gates of which one feeds the other
  module _ {b : Board} {u v : ℕ} (j : GateReads fanins thresholds signals weights inputs gates u v) (sound : T (board_ok b)) where
    pub joined_ok : EdgeOk (edge_in b fanins thresholds signals weights inputs u v)
    joined_ok = record { on_board = sound; ok_u = signal_gate u j.u_gate; ok_v = signal_gate v j.v_gate; joined = j.joined }

    -- they can be aligned
    pub joined_alignable : Alignable (edge_in b fanins thresholds signals weights inputs u v)
    joined_alignable = record { ok = joined_ok; low = omega (arith, j.v_gate, l.few_inputs, l.few_gates) }

    -- their places stand for them
    pub joined_rows : (gate_u gate_v : GateRecord) → gate_u ≡ row_at fanins thresholds signals weights (u - inputs)
        → gate_v ≡ row_at fanins thresholds signals weights (v - inputs)
        → alignments.edge_between b gate_u gate_v u v ≡ edge_in b fanins thresholds signals weights inputs u v
    joined_rows gate_u gate_v x y =
        ap₂ (λ (g h : Gate). edge_of b u v g h) (ap gate_in x ∙ signal_row u j.u_gate) (ap gate_in y ∙ signal_row v j.v_gate)

-- where both tests hold, one feeds the other
pub joined_of : (fanins : List ℕ) (thresholds : List ℤ) (signals : List ℕ) (weights : List ℤ) (inputs gates u v : ℕ)
    → Passed (edge_tests_in fanins thresholds signals weights inputs gates u v) → GateReads fanins thresholds signals weights inputs gates u v
unfolding edge_tests_in
joined_of fanins thresholds signals weights inputs gates u v p =
    let h = T_and (gate_signal inputs gates u) (gate_signal inputs gates v) p.0 in
    record { u_gate = signal_of_lem inputs gates u h.0; v_gate = signal_of_lem inputs gates v h.1; joined = p.1.0 }

-- ---- the arrays of a record

module _ (r : Network) where
  -- its gates are those of its network
  gate_is : (s : ℕ) → HasSignal r.inputs r.gates s → gate_from r.fanins r.thresholds r.signals r.weights (s - r.inputs) ≡ gate_at (net_of r) s
  unfolding gate_at net_of
  gate_is s w = sym (gate_within r (s - r.inputs) (omega (arith, w)))

  pub edge_is : (u v : ℕ) → HasSignal r.inputs r.gates u → HasSignal r.inputs r.gates v
      → edge_in r.board r.fanins r.thresholds r.signals r.weights r.inputs u v ≡ edge (net_of r) u v
  unfolding edge net_of
  edge_is u v a b = ap₂ (λ (g h : Gate). edge_of r.board u v g h) (gate_is u a) (gate_is v b)

  -- so are the tests: v's feeds are looked at only if v is a gate
  pub tests_are : (u v : ℕ)
      → first_failing (edge_tests_in r.fanins r.thresholds r.signals r.weights r.inputs r.gates u v) ≡ first_failing (edge_tests (net_of r) u v)
  unfolding first_failing edge_tests_in edge_tests
  tests_are u v = rw (gate_signal_lem r u, gate_signal_lem r v)
      (second (gate_signal r.inputs r.gates u && gate_signal r.inputs r.gates v)
      (λ t. ap (reads u) (gate_is v
      (signal_of_lem r.inputs r.gates v (T_and (gate_signal r.inputs r.gates u) (gate_signal r.inputs r.gates v) t).1))))
    where
      second : (b : Bool) {x y : Bool} → (T b → x ≡ y) → first_failing ((b else 11) ∷ (x else 12) ∷ []) ≡ first_failing ((b else 11) ∷ (y else 12) ∷ [])
      second true h = rw (h tt)
      second false h = refl
