-- By the law of the same matter. Assumes nothing.
use Rattle.worked_examples.proofs.RunLaws.{runs_are}
use Rattle.worked_examples.proofs.runs_by_their_bytes.Statement.{statement}
use Rattle.worked_examples.proofs.runs_by_their_bytes.Tie as tie

returns : tie.Need-returns
returns c = runs_are

pub runs_by_their_bytes_spec : {M : Type 1} → statement M
runs_by_their_bytes_spec = tie.close (tie.spec returns)
