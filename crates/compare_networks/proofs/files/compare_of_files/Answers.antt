-- The refusals, first file first, then the comparison of the two networks.
use Rattle.pmn_opening.specs.OpeningLaws.{file_sound}
use Rattle.compare_networks.specs.FileLaws.{first_refused, second_refused, files_left}
use Rattle.compare_networks.proofs.files.compare_of_files.Goals as goal

pub returns-then-code-ne0 : goal.returns-then-code-ne0
returns-then-code-ne0 c =
    let a = c.args in
    first_refused a.second.now c.refusal-code.ensures a.budget a.answer.now c.if-code-ne0.true

pub returns-then-second_code-ne0 : goal.returns-then-second_code-ne0
returns-then-second_code-ne0 c =
    let a = c.args in
    second_refused (c.refusal-code.ensures.gives c.if-code-ne0.false) a.budget a.answer.now c.refusal-second_code.ensures c.if-second_code-ne0.true

pub compare_sound-compared-requires : goal.compare_sound-compared-requires
compare_sound-compared-requires c =
    (file_sound (c.refusal-code.ensures.gives c.if-code-ne0.false), file_sound (c.refusal-second_code.ensures.gives c.if-second_code-ne0.false))

pub returns : goal.returns
returns c =
    let a = c.args in
    let left = files_left a.budget a.answer.now (c.refusal-code.ensures.gives c.if-code-ne0.false)
    (c.refusal-second_code.ensures.gives c.if-second_code-ne0.false) _ c.compare_sound-compared.ensures in
    rw (c.put_three.ensures.value, c.put_three.ensures.answer_after, c.from.ensures) left
