-- The code of a read is that of the definition.
use borrow.Author.Rules.{rules}
use Rattle.pmn_opening.specs.OpeningLaws.{read_code}
use Rattle.pmn_files.proofs.check_file.Statement.{statement}
use Rattle.pmn_files.proofs.check_file.Tie as tie

returns : tie.Need-returns
returns c = read_code c.args.file.now c.read-loaded.ensures

pub check_file_spec : {M : Type 1} → statement M
check_file_spec = tie.close (tie.spec (λ c κs. search rules) returns)
