-- One block of lanes or both, of which the second is as it was when the first is put.
use Rattle.std.proofs.Common.{◌+◌, arith}
use Rattle.network.specs.Threshold.{bit}
use Rattle.network.specs.Record.{gate_of}
use Rattle.frame_reading.specs.Evaluation.{bits_in}
use Rattle.frame_lanes.specs.Lanes.{lane}
use Rattle.frame_pass.proofs.LaneLaws.{masks_put}
use Rattle.frame_pass.proofs.SignalLaneLaws.{gate_narrow, gate_wide}
use Rattle.frame_pass.proofs.unchecked.put_gate.Goals as goal

pub put_block-requires-then-lanes-gt32 : goal.put_block-requires-then-lanes-gt32
put_block-requires-then-lanes-gt32 c =
    let a = c.args in
    let can = c.requires.can_put in
    record {
      masked = masks_put (λ f. bit (bits_in (lane a.masks.now (0 + f))) (gate_of a.network.now a.g)) can.masked c.put_block.ensures (omega arith);
      gate = can.gate;
      signal = can.signal;
      lanes = omega arith;
    }

pub returns-then-lanes-gt32 : goal.returns-then-lanes-gt32
returns-then-lanes-gt32 c =
    let a = c.args in
    let can = c.requires.can_put in
    gate_wide a.own (gate_of a.network.now a.g) can.masked can.signal c.put_block.ensures c.requires.lanes_bound c.put_block-then-lanes-gt32.ensures

pub returns-else-lanes-gt32 : goal.returns-else-lanes-gt32
returns-else-lanes-gt32 c =
    let a = c.args in
    let can = c.requires.can_put in
    gate_narrow a.own (gate_of a.network.now a.g) can.masked can.signal c.put_block.ensures c.if-lanes-gt32.false
