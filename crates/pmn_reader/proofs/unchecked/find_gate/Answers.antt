use Rattle.std.proofs.Common.{sym}
use Rattle.std.proofs.lemmas.Result.{err_from_is_err_and}
use Rattle.refusals.specs.Numbers.{number_of}
use Rattle.pmn_format.proofs.LengthLaws.{bytes_of}
use Rattle.pmn_reader.proofs.PartFiles.{file_refused, no_such_gate, gate_above, gate_found}
use Rattle.pmn_reader.proofs.unchecked.find_gate.Goals as goal

pub returns-in_err-read_network : goal.returns-in_err-read_network
returns-in_err-read_network c =
    let p = err_from_is_err_and c.from_residual.result c.from_residual.ensures.1 in
    rw (p.1, p.2) (file_refused c.args.file.now c.args.signal c.in_err-read_network.ensures.whole)

pub returns-then-not-is_gate : goal.returns-then-not-is_gate
unfolding number_of
returns-then-not-is_gate c = no_such_gate c.args.file.now c.args.signal c.in_ok-read_network.ensures.whole (sym c.if-not-is_gate.ensures)

pub overflow_sub-result : goal.overflow_sub-result
overflow_sub-result c =
    let s = c.args.file.now in
    gate_above s c.args.signal c.in_ok-read_network.ensures.whole (bytes_of s (λ i. (c.type_inv.file i).fits)) (sym c.if-not-is_gate.ensures)

pub returns : goal.returns
returns c =
    let s = c.args.file.now in
    gate_found s c.args.signal c.in_ok-read_network.ensures.whole (bytes_of s (λ i. (c.type_inv.file i).fits)) (sym c.if-not-is_gate.ensures)
