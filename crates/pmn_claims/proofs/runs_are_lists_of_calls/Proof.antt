-- By the law of the same matter. Assumes nothing.
use Rattle.pmn_claims.proofs.RunLaws.{run_claim}
use Rattle.pmn_claims.proofs.runs_are_lists_of_calls.Statement.{statement}
use Rattle.pmn_claims.proofs.runs_are_lists_of_calls.Tie as tie

returns : tie.Need-returns
returns c = run_claim

pub runs_are_lists_of_calls_spec : {M : Type 1} → statement M
runs_are_lists_of_calls_spec = tie.close (tie.spec returns)
