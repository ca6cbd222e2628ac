-- The writing of the record, and the length that it says.
use borrow.Author.Rules.{rules}
use mathlib.Core.Path.{◌∙◌}
use Rattle.pmn_files.specs.FileLaws.{file_left}
use Rattle.pmn_files.proofs.unchecked.put_file.Statement.{statement}
use Rattle.pmn_files.proofs.unchecked.put_file.Tie as tie

returns : tie.Need-returns
returns c =
    let w = c.write_sound-written.ensures in
    let l = file_left c.args.network c.requires.0 c.args.out.now c.args.answer.now w.0 w.1 in
    (c.put_one.ensures.0 ∙ l.0, (l.1.0, c.put_one.ensures.1 ∙ l.1.1))

pub put_file_spec : {M : Type 1} → statement M
put_file_spec = tie.close (tie.spec (λ c κs. search rules) (λ c κs. search rules) (λ c. search rules) (λ c. search rules) returns)
