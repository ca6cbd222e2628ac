-- A step taken back keeps the board and the counts of inputs and outputs. Assumes nothing.
use Rattle.std.specs.Prelude.{◌≡◌, refl, length}
use Rattle.std.proofs.Common.{sym, ◌∙◌}
use Rattle.std.proofs.lemmas.List.{length-map}
use Rattle.network.specs.Threshold.{Net}
use Rattle.network.specs.Record.{net_of, layout}
use Rattle.network.specs.Changes.{raised, with_gate, inserted}
use Rattle.network.specs.RecordLaws.{count_outputs}
use Rattle.network.specs.declared.Network.{Network}
use Rattle.call_theory.specs.Steps.{Step, merging, dropping, undo_of}

same_board : (N : Net) (s : Step) → (undo_of N s).board ≡ N.board
unfolding undo_of with_gate inserted
same_board N (merging v g) = refl
same_board N (dropping u g) = refl

same_inputs : (N : Net) (s : Step) → (undo_of N s).inputs ≡ N.inputs
unfolding undo_of with_gate inserted
same_inputs N (merging v g) = refl
same_inputs N (dropping u g) = refl

same_outputs : (N : Net) (s : Step) → length (undo_of N s).outputs ≡ length N.outputs
unfolding undo_of with_gate inserted
same_outputs N (merging v g) = refl
same_outputs N (dropping u g) = length-map N.outputs (raised u)

-- the network before a step, in the record of the one after it
pub back_parts : (r : Network) (s : Step) (b : Network) → b ≡ layout (undo_of (net_of r) s) → ◌≡◌ {A = Network} (record {
  board = r.board;
  inputs = r.inputs;
  gates = b.gates;
  outputs = r.outputs;
  fanins = b.fanins;
  signals = b.signals;
  weights = b.weights;
  thresholds = b.thresholds;
  drivers = b.drivers;
}) (layout (undo_of (net_of r) s))
unfolding net_of layout
back_parts r s b e = λ x. record {
  board = sym (same_board (net_of r) s) x;
  inputs = sym (same_inputs (net_of r) s) x;
  gates = (e x).gates;
  outputs = sym (same_outputs (net_of r) s ∙ count_outputs r) x;
  fanins = (e x).fanins;
  signals = (e x).signals;
  weights = (e x).weights;
  thresholds = (e x).thresholds;
  drivers = (e x).drivers;
}
