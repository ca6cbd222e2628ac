use Rattle.std.proofs.Common.{◌≡◌, sym, ap, ◌∙◌, ℕ, ◌+◌, ◌*◌, ◌≤◌, List, ◌++◌, length, drop, get_or, ◌<◌, arith}
use Rattle.basics.specs.WriteLaws.{tail_length, write_on}
use Rattle.network.specs.declared.GateRecord.{GateRecord}
use Rattle.network.specs.declared.Network.{Network}
use Rattle.network.specs.Threshold.{Gate}
use Rattle.network.specs.Record.{gate_in, gate_from, row_at}
use Rattle.pmn_format.specs.Format.{gate_bytes}
use Rattle.pmn_writer.specs.Writing.{first_gates, gates_length}
use Rattle.pmn_writer.specs.WritingLaws.{gates_length_none, gates_length_more, gates_length_room, first_gates_none, first_gates_more, first_gates_length}
use Rattle.pmn_writer.specs.WritingLaws.{gate_from_length, gate_in_row}
use Rattle.pmn_writer.proofs.unchecked.put_gates.Goals as goal

pub loop-g-init : goal.loop-g-init
loop-g-init c =
    let n = c.args.network.now in record {
      at = sym (gates_length_none n.fanins);
      front = sym (ap (λ (l : List ℕ). l ++ c.args.out.now) (first_gates_none n.fanins n.thresholds n.signals n.weights));
    }

-- the loop's gate has room after its predecessors
room : (fs : List ℕ) (gates g at long : ℕ) → g < gates → at ≡ gates_length fs g → gates_length fs gates ≤ long → at + (5 + 5 * get_or fs g 0) ≤ long
room fs gates g at long h e l = let r = gates_length_room fs g gates h in omega arith

-- its feed count
fanin_is : (n : Network) (g : ℕ) (x : GateRecord) → x ≡ row_at n.fanins n.thresholds n.signals n.weights g → x.fanin ≡ get_or n.fanins g 0
unfolding row_at
fanin_is n g x e = ap (λ (y : GateRecord). y.fanin) e

pub slice_bounds-put_gate-count : goal.slice_bounds-put_gate-count
slice_bounds-put_gate-count c =
    let l = c.loop-g in
    let n = c.args.network.now in
    omega (arith, room n.fanins n.gates l.g l.at (length l.out) (omega arith) l.invariant.at (omega (arith, c.requires.gates_in_bounds)))

pub slice_bounds-put_gate-start : goal.slice_bounds-put_gate-start
slice_bounds-put_gate-start c =
    let l = c.loop-g in
    let n = c.args.network.now in
    omega (arith, room n.fanins n.gates l.g l.at (length l.out) (omega arith) l.invariant.at (omega (arith, c.requires.gates_in_bounds)))

pub put_gate-step-requires : goal.put_gate-step-requires
put_gate-step-requires c =
    let l = c.loop-g in
    let n = c.args.network.now in
    let r = room n.fanins n.gates l.g l.at (length l.out) (omega arith) l.invariant.at (omega (arith, c.requires.gates_in_bounds)) in
    let e = fanin_is n l.g c.gate_at-gate.result c.gate_at-gate.ensures in
    let f = c.requires.counted.few_feeds l.g (omega arith) in
    let t = tail_length l.at l.out in
    (omega arith, omega arith)

pub loop-g-preserved : goal.loop-g-preserved
loop-g-preserved c =
    let l = c.loop-g in
    let n = c.args.network.now in
    let fs = n.fanins in
    let ts = n.thresholds in
    let ss = n.signals in
    let ws = n.weights in
    let x₀ = c.args.out.now in
    let step = c.put_gate-step.result in
    let m = gates_length_more fs l.g in
    let f = c.requires.counted.few_feeds l.g (omega arith) in
    let s : step ≡ 5 + 5 * get_or fs l.g 0 = c.put_gate-step.ensures.value ∙ ap (λ (k : ℕ). 5 + 5 * k) (fanin_is n l.g c.gate_at-gate.result c.gate_at-gate.ensures) in
    let r = room fs n.gates l.g l.at (length l.out) (omega arith) l.invariant.at (omega (arith, c.requires.gates_in_bounds)) in
    let e : gate_in c.gate_at-gate.result ≡ gate_from fs ts ss ws l.g = ap gate_in c.gate_at-gate.ensures ∙ gate_in_row fs ts ss ws l.g f in
    let b = gate_bytes (gate_in c.gate_at-gate.result) in record {
      at = omega arith;
      front = write_on x₀ l.out c.put_gate-step.new.out (first_gates fs ts ss ws l.g) b l.at step l.invariant.front
          (first_gates_length fs ts ss ws l.g ∙ sym l.invariant.at) (ap (λ (x : Gate). length (gate_bytes x)) e ∙ gate_from_length fs ts ss ws l.g ∙ sym s)
          (omega arith) c.put_gate-step.ensures.out_after
          ∙ ap (λ (x : Gate). (first_gates fs ts ss ws l.g ++ gate_bytes x) ++ drop (l.at + step) x₀) e
          ∙ ap (λ (p : List ℕ). p ++ drop (l.at + step) x₀) (sym (first_gates_more fs ts ss ws l.g));
    }
