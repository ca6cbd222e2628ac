-- Laws of a gate stored into a record, and taken out of it. Assumes nothing.
use Rattle.std.specs.Prelude.{◌≡◌, ℕ, ◌-◌}
use Rattle.std.proofs.Common.{◌∙◌}
use Rattle.network.specs.Record.{net_of, layout, gate_in, gate_record}
use Rattle.network.specs.Changes.{without, with_gate}
use Rattle.network.specs.Places.{SoundGate}
use Rattle.network.specs.RecordLaws.{ArrayLengths, gate_number}
use Rattle.network.specs.declared.GateRecord.{GateRecord}
use Rattle.network.specs.declared.Network.{Network}
use Rattle.network_places.specs.Parts.{StoredIn}
use Rattle.network_places.specs.Removal.{RemovedFrom}
use Rattle.network_places.specs.StoreLaws.{stored_record}
use Rattle.network_places.specs.RemoveLaws.{removed}

module _ {r r' : Network} (shape : ArrayLengths r) where
  -- a gate taken out: the record of the network without it
  pub removed_is : {u : ℕ} → SoundGate r u → RemovedFrom u r r' → r' ≡ layout (without (net_of r) u)
  removed_is {u} own m =
      m.rest
      ∙ (λ x. record {
        board = r.board;
        inputs = r.inputs;
        gates = r.gates - 1;
        outputs = r.outputs;
        fanins = m.arrays.fanins_are x;
        signals = m.arrays.signals_are x;
        weights = m.arrays.weights_are x;
        thresholds = m.arrays.thresholds_are x;
        drivers = m.arrays.drivers_are x;
      })
      ∙ removed r u shape own

  -- a gate stored: the record of the network with it
  pub stored_is : (v : ℕ) (gate : GateRecord) → SoundGate r v → gate ≡ gate_record (gate_in gate) → StoredIn (v - r.inputs) gate r r'
      → r' ≡ layout (with_gate (net_of r) v (gate_in gate))
  unfolding with_gate net_of
  stored_is v gate own e m =
      m.rest ∙ stored_record r (v - r.inputs) (gate_in gate) shape own.sound (gate_number r v own).1 (rw e at m.arrays)
