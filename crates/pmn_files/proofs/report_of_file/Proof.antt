-- The refusal, then the size of the file's network.
use borrow.Author.Rules.{rules}
use mathlib.Core.List.{[], ◌∷◌}
use Rattle.basics.specs.RefusalLaws.{refused_one}
use Rattle.pmn_opening.specs.AnswerLaws.{placed}
use Rattle.pmn_opening.specs.OpeningLaws.{file_sound, open_refused}
use Rattle.pmn_files.specs.Files.{report_places}
use Rattle.pmn_files.specs.FileLaws.{report_answer}
use Rattle.pmn_files.proofs.report_of_file.Statement.{statement}
use Rattle.pmn_files.proofs.report_of_file.Tie as tie

refusal_requires : tie.Need-refusal-code-requires
refusal_requires c κs = (λ i. (c.shared_slice_known-1.given i).fits, c.read-loaded.ensures)

returns : tie.Need-returns-then-code-ne0
unfolding report_places
returns c = refused_one c.args.answer.now (open_refused c.refusal-code.ensures _ c.if-code-ne0.true)

size_of_requires : tie.Need-size_of-size-requires
size_of_requires c κs = file_sound (c.refusal-code.ensures.gives c.if-code-ne0.false)

put_three_requires : tie.Need-put_three-requires
put_three_requires c κs = (c.refusal-code.ensures.gives c.if-code-ne0.false).room

returns_2 : tie.Need-returns
returns_2 c =
    let g = c.size_of-size in
    let a = c.args in
    placed g.result.code (g.result.gates ∷ g.result.cost ∷ g.result.levels ∷ []) a.answer.now
    (report_answer a.answer.now (c.refusal-code.ensures.gives c.if-code-ne0.false) g.ensures) c.put_three.ensures

pub report_of_file_spec : {M : Type 1} → statement M
report_of_file_spec =
    tie.close
    (tie.spec
    (λ c κs. search rules)
    refusal_requires
    returns
    size_of_requires
    put_three_requires
    (λ c. search rules)
    returns_2)
