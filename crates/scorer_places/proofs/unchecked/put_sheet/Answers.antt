use Rattle.std.proofs.Common.{◌≡◌, rules, length}
use Rattle.pmn_opening.specs.AnswerLaws.{keep_places}
use Rattle.scorer_places.specs.Numbers.{sheet_numbers}
use Rattle.scorer_places.specs.PlaceLaws.{sheet_put}
use Rattle.scorer_places.proofs.unchecked.put_sheet.Goals as goal

pub returns-then-sheet-ne0-clause-answer_after : goal.returns-then-sheet-ne0-clause-answer_after
returns-then-sheet-ne0-clause-answer_after c =
    let a = c.args in
    keep_places a.sheet.code (sheet_numbers a.sheet) a.answer.now c.if-sheet-ne0.true

pub returns-clause-answer_after : goal.returns-clause-answer_after
returns-clause-answer_after c =
    let a = c.args in
    let many_pins : length a.sheet.felled ≡ 21 = search rules in
    let many_scores : length a.sheet.scores ≡ 10 = search rules in
    sheet_put a.sheet a.answer.now c.put_counts.new.answer c.put_felled.new.answer c.put_scores.new.answer many_pins many_scores c.requires
    c.if-sheet-ne0.false c.put_counts.ensures c.put_felled.ensures c.put_scores.ensures
