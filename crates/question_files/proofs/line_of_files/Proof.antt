-- The refusals, first file first, then the line of the two networks.
use borrow.Author.Rules.{rules}
use mathlib.Core.Path.{◌∙◌}
use Rattle.pmn_opening.specs.AnswerLaws.{refused_two}
use Rattle.pmn_opening.specs.OpeningLaws.{read_refused}
use Rattle.question_files.specs.Files.{line_out}
use Rattle.question_files.specs.FileLaws.{line_refused, line_left}
use Rattle.question_files.proofs.line_of_files.Statement.{statement}
use Rattle.question_files.proofs.line_of_files.Tie as tie

refusal_requires : tie.Need-refusal-code-requires
refusal_requires c κs = (λ i. (c.shared_slice_known-1.given i).fits, c.read-one.ensures)

returns : tie.Need-returns-then-code-ne0
unfolding line_out
returns c =
    let a = c.args in
    refused_two a.out.now a.answer.now (read_refused c.refusal-code.ensures _ c.if-code-ne0.true)

refusal_requires_2 : tie.Need-refusal-number-requires
refusal_requires_2 c κs = (λ i. (c.shared_slice_known-2-1.given i).fits, c.read-other.ensures)

returns_2 : tie.Need-returns-then-number-ne0
returns_2 c =
    let a = c.args in
    refused_two a.out.now a.answer.now
    (line_refused (c.refusal-code.ensures.gives c.if-code-ne0.false) a.n a.out.now a.answer.now c.refusal-number.ensures c.if-number-ne0.true)

put_one_requires : tie.Need-put_one-requires
put_one_requires c κs = (c.refusal-number.ensures.gives c.if-number-ne0.false).room

returns_3 : tie.Need-returns
returns_3 c =
    let p = c.put_one in
    let w = c.line-written in
    let a = c.args in
    let one = c.refusal-code.ensures.gives c.if-code-ne0.false in
    let other = c.refusal-number.ensures.gives c.if-number-ne0.false in
    let v = line_left a.n a.out.now a.answer.now one other w.ensures.0 w.ensures.1 in
    (p.ensures.0 ∙ v.0, (v.1.0, p.ensures.1 ∙ v.1.1))

pub line_of_files_spec : {M : Type 1} → statement M
line_of_files_spec =
    tie.close
    (tie.spec
    (λ c κs. search rules)
    refusal_requires
    returns
    (λ c κs. search rules)
    refusal_requires_2
    returns_2
    (λ c κs. search rules)
    put_one_requires
    (λ c. search rules)
    (λ c. search rules)
    returns_3)
