-- By the law of lists of calls on records. Assumes nothing.
use Rattle.guarantees.proofs.ListLaws.{accepted_claim}
use Rattle.guarantees.proofs.lists_of_calls.Statement.{statement}
use Rattle.guarantees.proofs.lists_of_calls.Tie as tie

returns : tie.Need-returns
returns c = accepted_claim

pub lists_of_calls_spec : {M : Type 1} → statement M
lists_of_calls_spec = tie.close (tie.spec returns)
