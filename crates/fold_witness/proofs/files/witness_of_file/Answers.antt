-- The refusal, then the witness on the file's network. Assumes nothing.
use Rattle.std.proofs.Common.{arith}
use Rattle.fold_witness.specs.FileLaws.{left_refused, left_none, left_shown, put_first}
use Rattle.fold_witness.proofs.files.witness_of_file.Goals as goal

pub returns-then-code-ne0 : goal.returns-then-code-ne0
returns-then-code-ne0 c =
    let a = c.args in
    left_refused _ a.u a.v a.k a.l a.answer.now c.refusal-code.ensures.code c.if-code-ne0.true

pub returns-then-number-ne15 : goal.returns-then-number-ne15
returns-then-number-ne15 c =
    let a = c.args in
    left_none a.u a.v a.k a.l a.answer.now (c.refusal-code.ensures.gives c.if-code-ne0.false) c.witness-shown.ensures c.if-number-ne15.true

pub bounds-answer-0 : goal.bounds-answer-0
bounds-answer-0 c = omega (arith, (c.refusal-code.ensures.gives c.if-code-ne0.false).room)

pub returns : goal.returns
returns c =
    let a = c.args in
    let file = c.refusal-code.ensures.gives c.if-code-ne0.false in
    let w = c.witness-shown in
    left_shown a.u a.v a.k a.l a.answer.now file w.ensures _ (put_first a.answer.now w.result.setting file.room) c.if-number-ne15.false
