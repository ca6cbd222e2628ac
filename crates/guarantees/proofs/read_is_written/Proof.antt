-- By the law of the same name. Assumes nothing.
use Rattle.guarantees.proofs.FileLaws.{read_is_written}
use Rattle.guarantees.proofs.read_is_written.Statement.{statement}
use Rattle.guarantees.proofs.read_is_written.Tie as tie

returns : tie.Need-returns
returns c = read_is_written

pub read_is_written_spec : {M : Type 1} → statement M
read_is_written_spec = tie.close (tie.spec returns)
