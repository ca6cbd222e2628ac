-- Internal: one step of a record taken back. Document 02, No. 5, "Undo takes back the latest step". Nothing is proved here.
use Rattle.std.specs.Prelude.{◌≡◌, cond, ◌≤◌}
use Rattle.network.specs.Record.{net_of, layout, gate_in, gate_record}
use Rattle.network.specs.declared.GateRecord.{GateRecord}
use Rattle.network.specs.declared.Network.{Network}
use Rattle.call_theory.specs.Steps.{Step, undo_of, undoable}

-- a gate's 16 places with 0 in the spare ones, and at most 16 feeds
pub record GateRecordOk (gate : GateRecord) : Type 0 where
  pub row : gate ≡ gate_record (gate_in gate)
  pub few : gate.fanin ≤ 16

-- the network before a step that can be taken back, or else the network as it is
unfoldable pub back_to : Network → Step → Network
back_to n s = cond (undoable (net_of n) s) (layout (undo_of (net_of n) s)) n
