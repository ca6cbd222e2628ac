-- By the law of the same matter. Assumes nothing.
use Rattle.worked_examples.proofs.AlleyLaws.{alleys_listed}
use Rattle.worked_examples.proofs.alleys_by_their_bytes.Statement.{statement}
use Rattle.worked_examples.proofs.alleys_by_their_bytes.Tie as tie

returns : tie.Need-returns
returns c = alleys_listed

pub alleys_by_their_bytes_spec : {M : Type 1} → statement M
alleys_by_their_bytes_spec = tie.close (tie.spec returns)
