use Rattle.std.proofs.Common.{arith, ap, ◌++◌, drop, List, ℤ, ◌∙◌}
use Rattle.basics.specs.RefusalLaws.{refused_one}
use Rattle.three_feeds_places.specs.PlaceLaws.{too_few, too_high, entry_left}
use Rattle.three_feeds_places.proofs.put_entry.Goals as goal

pub returns-then-answer-lt5 : goal.returns-then-answer-lt5
returns-then-answer-lt5 c =
    let a = c.args in
    let p = refused_one a.answer.now (too_few a.table a.answer.now (omega arith)) in
    record { value = p.0; answer_after = p.1 }

pub returns-then-table-gt255 : goal.returns-then-table-gt255
returns-then-table-gt255 c =
    let a = c.args in
    let p = refused_one a.answer.now (too_high a.table a.answer.now c.if-answer-lt5.false (omega arith)) in
    record { value = p.0; answer_after = p.1 }

pub returns : goal.returns
returns c =
    let a = c.args in
    let put = ap (λ (l : List ℤ). l ++ drop 5 a.answer.now) (c.copy_from_slice.ensures.after ∙ c.numbers.ensures) in
    let p = entry_left a.table a.answer.now c.if-answer-lt5.false c.if-table-gt255.false c.entry.ensures.value put in
    record { value = p.0; answer_after = p.1 }
