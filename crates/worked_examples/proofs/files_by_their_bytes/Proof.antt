-- By the law of the same matter. Assumes nothing.
use Rattle.worked_examples.proofs.FileLaws.{files_read}
use Rattle.worked_examples.proofs.files_by_their_bytes.Statement.{statement}
use Rattle.worked_examples.proofs.files_by_their_bytes.Tie as tie

returns : tie.Need-returns
returns c = files_read

pub files_by_their_bytes_spec : {M : Type 1} → statement M
files_by_their_bytes_spec = tie.close (tie.spec returns)
