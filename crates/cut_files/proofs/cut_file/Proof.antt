-- The refusals in their order, then the cut of the file's record, its file and the length. Assumes nothing.
use borrow.Author.Rules.{rules}
use lib.ListN.{length}
use Rattle.pmn_opening.specs.AnswerLaws.{refused_two, same_two}
use Rattle.pmn_opening.specs.OpeningLaws.{file_sound, open_refused}
use Rattle.cut_files.specs.Answers.{cut_places}
use Rattle.cut_files.specs.FileLaws.{file_stray, pin_sound, pin_answer}
use Rattle.cut_files.proofs.cut_file.Statement.{statement}
use Rattle.cut_files.proofs.cut_file.Tie as tie

refusal_requires : tie.Need-refusal-code-requires
refusal_requires c κs = (λ i. (c.shared_slice_known-1.given i).fits, c.read-read.ensures)

returns : tie.Need-returns-then-code-ne0
unfolding cut_places
returns c =
    let a = c.args in
    refused_two a.out.now a.answer.now (open_refused c.refusal-code.ensures _ c.if-code-ne0.true)

returns_2 : tie.Need-returns-then-outputs-output
returns_2 c =
    let a = c.args in
    let o = c.refusal-code.ensures.gives c.if-code-ne0.false in
    refused_two a.out.now a.answer.now (file_stray o a.output (length a.out.now) c.if-outputs-output.true)

cut_sound_requires : tie.Need-cut_sound-pin-requires
cut_sound_requires c κs = (file_sound (c.refusal-code.ensures.gives c.if-code-ne0.false), c.if-outputs-output.false)

put_file_requires : tie.Need-put_file-requires
put_file_requires c κs =
    let o = c.refusal-code.ensures.gives c.if-code-ne0.false in
    (pin_sound o _ c.if-outputs-output.false c.cut_sound-pin.ensures, o.room)

returns_3 : tie.Need-returns
returns_3 c =
    let a = c.args in
    let o = c.refusal-code.ensures.gives c.if-code-ne0.false in
    let e = pin_answer o a.output c.if-outputs-output.false c.cut_sound-pin.ensures (length a.out.now) in
    same_two a.out.now a.answer.now e c.put_file.ensures

pub cut_file_spec : {M : Type 1} → statement M
cut_file_spec =
    tie.close
    (tie.spec
    (λ c κs. search rules)
    refusal_requires
    returns
    returns_2
    cut_sound_requires
    put_file_requires
    (λ c. search rules)
    (λ c. search rules)
    returns_3)
