-- Where the inputs are as many, the outputs decide.
use Rattle.std.proofs.Common.{Bool, ◌&&◌, eqb, sym, ap, ◌∙◌}
use Rattle.std.proofs.Common.{eq-eqb}
use Rattle.question_lines.specs.ComparableLaws.{alike_is}
use Rattle.question_text.proofs.are_alike.Goals as goal

pub returns-then-first-second : goal.returns-then-first-second
returns-then-first-second c =
    let a = c.args in
    sym (ap (λ (b : Bool). b && eqb a.first.outputs a.second.outputs) (eq-eqb a.first.inputs a.second.inputs c.if-first-second.true)) ∙ alike_is a.first a.second
