use Rattle.std.proofs.Common.{ap, ◌∙◌, List, ◌++◌, ℕ, length, drop}
use Rattle.pmn_opening.specs.AnswerLaws.{put_places, keep_places}
use Rattle.pmn_opening.proofs.unchecked.places.put_numbers.Goals as goal

pub returns-then-code-eq0-clause-answer_after : goal.returns-then-code-eq0-clause-answer_after
returns-then-code-eq0-clause-answer_after c =
    let a = c.args in
    ap (λ (xs : List ℕ). xs ++ drop (length a.numbers.now) a.answer.now) c.copy_from_slice.ensures.after
    ∙ put_places a.code a.numbers.now a.answer.now c.if-code-eq0.true

pub returns-else-code-eq0-clause-answer_after : goal.returns-else-code-eq0-clause-answer_after
returns-else-code-eq0-clause-answer_after c = let a = c.args in keep_places a.code a.numbers.now a.answer.now c.if-code-eq0.false
