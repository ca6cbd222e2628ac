use Rattle.std.proofs.Common.{arith}
use Rattle.std.proofs.lemmas.Result.{err_from_is_err_and}
use Rattle.pmn_reader.proofs.GatesLoop.{gates_start, gates_bad, gates_got, gates_end}
use Rattle.pmn_reader.proofs.unchecked.read_gates.Goals as goal

pub loop-g-init : goal.loop-g-init
loop-g-init c = let h = c.args.head in gates_start c.args.bytes.now h.board h.inputs h.gates c.requires.1

pub returns-in_err-gate : goal.returns-in_err-gate
returns-in_err-gate c =
    let p = err_from_is_err_and c.from_residual.result c.from_residual.ensures.1 in
    rw (p.1, p.2) (gates_bad c.loop-g.invariant (omega arith) c.in_err-gate.ensures)

pub loop-g-preserved : goal.loop-g-preserved
loop-g-preserved c = gates_got c.loop-g.invariant (omega arith) (omega arith) c.in_ok-gate.ensures c.store_gate.ensures

pub returns : goal.returns
returns c = gates_end c.loop-g.invariant (omega arith)
