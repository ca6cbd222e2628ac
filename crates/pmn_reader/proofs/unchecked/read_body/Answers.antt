-- The gates, then the outputs, then the end, as the format has them.
use Rattle.std.proofs.Common.{arith}
use Rattle.std.proofs.lemmas.Bool.Decides.{nat_tests}
use Rattle.refusals.specs.Numbers.{number_of}
use Rattle.pmn_reader.proofs.Body.{tail_left, body_read}
use Rattle.pmn_reader.proofs.unchecked.read_body.Goals as goal

pub returns-then-not-is_empty : goal.returns-then-not-is_empty
unfolding number_of
returns-then-not-is_empty c =
    let h = c.args.head in
    tail_left h.board h.inputs h.gates h.outputs c.args.bytes.now c.in_ok-rest.ensures c.in_ok-rest-2.ensures c.requires.0.few_outputs (grind (arith, nat_tests, c.if-not-is_empty.ensures))

pub returns : goal.returns
returns c =
    let h = c.args.head in
    body_read h.board h.inputs h.gates h.outputs c.args.bytes.now c.in_ok-rest.ensures c.in_ok-rest-2.ensures c.requires.0.few_outputs
    (grind (arith, nat_tests, c.if-not-is_empty.ensures)) c.read_outputs.auto.drivers
