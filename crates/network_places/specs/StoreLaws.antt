-- Laws of a gate stored into the arrays of a list of gates, and into those of a record. Assumes nothing.
use Rattle.std.specs.Prelude.{◌≡◌, true, List, ℕ, ◌<◌, ℤ, set}
use Rattle.std.proofs.Common.{sym, ap, ◌∙◌, arith, length-set}
use Rattle.basics.specs.TestLaws.{T_is}
use Rattle.network.specs.declared.Network.{Network}
use Rattle.network.specs.Threshold.{Gate}
use Rattle.network.specs.Record.{net_of, layout, sound_record, gate_record}
use Rattle.network.specs.Changes.{with_gates}
use Rattle.network.specs.Places.{GateStored, ArraysOf}
use Rattle.network.specs.PlaceLaws.{GateChanged, changed_set, changed_stored}
use Rattle.network.specs.RecordLaws.{ArrayLengths, layout_net_of, count_gates, count_outputs, sound_net}
use Rattle.network_places.specs.PasteLaws.{pasted_same}

-- the arrays are then those of the list with that gate
pub stored_gates : {gs hs : List Gate} {g : ℕ} {x : Gate} {fanins fanins' signals signals' : List ℕ} {thresholds thresholds' weights weights' : List ℤ}
    → GateChanged gs hs g x → g < 128 → ArraysOf gs fanins thresholds signals weights
    → GateStored g (gate_record x) fanins thresholds signals weights fanins' thresholds' signals' weights' → ArraysOf hs fanins' thresholds' signals' weights'
stored_gates c l a s =
    let t = changed_stored c l in
    record {
      fanins_are = s.fanin ∙ rw a.fanins_are (sym t.fanin);
      thresholds_are = s.threshold ∙ rw a.thresholds_are (sym t.threshold);
      signals_are = pasted_same (rw a.signals_are at s.row_signals) t.row_signals;
      weights_are = pasted_same (rw a.weights_are at s.row_weights) t.row_weights;
    }

-- a record with other arrays for its gates
abbrev pub with_arrays : Network → List ℕ → List ℤ → List ℕ → List ℤ → Network
with_arrays n fanins thresholds signals weights = record {
  board = n.board;
  inputs = n.inputs;
  gates = n.gates;
  outputs = n.outputs;
  fanins = fanins;
  signals = signals;
  weights = weights;
  thresholds = thresholds;
  drivers = n.drivers;
}

-- a sound record with a gate stored as gate g is that of the network with the gate
pub stored_record : (n : Network) (g : ℕ) (x : Gate) → ArrayLengths n → sound_record n ≡ true → g < n.gates
    → {fanins signals : List ℕ} {thresholds weights : List ℤ}
    → GateStored g (gate_record x) n.fanins n.thresholds n.signals n.weights fanins thresholds signals weights
    → with_arrays n fanins thresholds signals weights ≡ layout (with_gates (net_of n) (set (net_of n).gates g x))
unfolding layout net_of
stored_record n g x shape s h st =
    let gs : List Gate = (net_of n).gates in
    let same : layout (net_of n) ≡ n = layout_net_of n shape (T_is (sound_record n) s) in
    let old : ArraysOf gs n.fanins n.thresholds n.signals n.weights = record {
      fanins_are = sym (ap (λ (r : Network). r.fanins) same);
      thresholds_are = sym (ap (λ (r : Network). r.thresholds) same);
      signals_are = sym (ap (λ (r : Network). r.signals) same);
      weights_are = sym (ap (λ (r : Network). r.weights) same);
    } in
    let few : g < 128 = omega (arith, count_gates n, (sound_net n (T_is (sound_record n) s)).few_gates) in
    let new = stored_gates (changed_set gs g x (omega (arith, count_gates n))) few old st in
    λ i. record {
      board = n.board;
      inputs = n.inputs;
      gates = sym (length-set gs g x ∙ count_gates n) i;
      outputs = sym (count_outputs n) i;
      fanins = new.fanins_are i;
      signals = new.signals_are i;
      weights = new.weights_are i;
      thresholds = new.thresholds_are i;
      drivers = sym (ap (λ (r : Network). r.drivers) same) i;
    }
