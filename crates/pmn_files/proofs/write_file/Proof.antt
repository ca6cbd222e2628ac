-- The refusal, then the file of the file's record.
use borrow.Author.Rules.{rules}
use Rattle.pmn_opening.specs.AnswerLaws.{refused_two, same_two}
use Rattle.pmn_opening.specs.OpeningLaws.{file_sound, open_refused}
use Rattle.pmn_files.specs.Files.{file_out}
use Rattle.pmn_files.specs.FileLaws.{file_answer}
use Rattle.pmn_files.proofs.write_file.Statement.{statement}
use Rattle.pmn_files.proofs.write_file.Tie as tie

refusal_requires : tie.Need-refusal-code-requires
refusal_requires c κs = (λ i. (c.shared_slice_known-1.given i).fits, c.read-loaded.ensures)

returns : tie.Need-returns-then-code-ne0
unfolding file_out
returns c =
    let a = c.args in
    refused_two a.out.now a.answer.now (open_refused c.refusal-code.ensures _ c.if-code-ne0.true)

put_file_requires : tie.Need-put_file-requires
put_file_requires c κs =
    let o = c.refusal-code.ensures.gives c.if-code-ne0.false in
    (file_sound o, o.room)

returns_2 : tie.Need-returns
returns_2 c =
    let a = c.args in
    let o = c.refusal-code.ensures.gives c.if-code-ne0.false in
    same_two a.out.now a.answer.now (file_answer a.out.now a.answer.now o) c.put_file.ensures

pub write_file_spec : {M : Type 1} → statement M
write_file_spec =
    tie.close (tie.spec (λ c κs. search rules) refusal_requires returns put_file_requires (λ c. search rules) (λ c. search rules) returns_2)
