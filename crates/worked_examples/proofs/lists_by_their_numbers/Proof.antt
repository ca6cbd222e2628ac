-- By the law of the same matter. Assumes nothing.
use Rattle.worked_examples.proofs.RunLaws.{calls_read}
use Rattle.worked_examples.proofs.lists_by_their_numbers.Statement.{statement}
use Rattle.worked_examples.proofs.lists_by_their_numbers.Tie as tie

returns : tie.Need-returns
returns c = calls_read

pub lists_by_their_numbers_spec : {M : Type 1} → statement M
lists_by_their_numbers_spec = tie.close (tie.spec returns)
