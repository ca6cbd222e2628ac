-- The refusal, then the sheet of the file's network in its places. Assumes nothing.
use mathlib.Core.Path.{refl}
use native.Mathlib.Omega.{arith}
use borrow.Author.Rules.{rules}
use lib.ListN.{length}
use Rattle.basics.specs.RefusalLaws.{refused_one}
use Rattle.pmn_opening.specs.AnswerLaws.{placed}
use Rattle.pmn_opening.specs.OpeningLaws.{open_refused, opening_refused, opening_short, opening_enough}
use Rattle.scorer.specs.Answers.{score_places}
use Rattle.scorer_places.specs.Numbers.{sheet_numbers}
use Rattle.scorer.specs.FileLaws.{score_answer}
use Rattle.scorer.proofs.files.score_file.Statement.{statement}
use Rattle.scorer.proofs.files.score_file.Tie as tie

returns : tie.Need-returns-then-code-ne0
unfolding score_places
returns c =
    refused_one _
    (open_refused (opening_refused _ (λ i. (c.shared_slice_known-1.given i).fits) c.read-loaded.ensures _ 33 c.if-code-ne0.true) _ c.if-code-ne0.true)

returns_2 : tie.Need-returns-then-answer-lt33
unfolding score_places
returns_2 c =
    let places = length c.args.answer.now in
    let short = opening_short _ (λ i. (c.shared_slice_known-1.given i).fits) c.read-loaded.ensures places 33 c.if-code-ne0.false (omega arith) in
    refused_one _ (open_refused short _ (λ z. omega arith))

returns_3 : tie.Need-returns
returns_3 c =
    let g = c.score_network-sheet in
    let a = c.args in
    let opening = opening_enough _ (λ i. (c.shared_slice_known-1.given i).fits) c.read-loaded.ensures _ 33 c.if-code-ne0.false c.if-answer-lt33.false in
    placed g.result.code (sheet_numbers g.result) a.answer.now (score_answer (opening.gives refl) a.frames.now g.ensures)
    c.put_sheet.ensures

pub score_file_spec : {M : Type 1} → statement M
score_file_spec =
    tie.close
    (tie.spec
    (λ c κs. search rules)
    returns
    returns_2
    (λ c κs. search rules)
    (λ c κs. search rules)
    (λ c. search rules)
    returns_3)
