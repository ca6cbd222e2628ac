-- By the law of the same matter. Assumes nothing.
use Rattle.network_claims.proofs.MarginLaws.{margins_exact}
use Rattle.network_claims.proofs.margins_are_exact.Statement.{statement}
use Rattle.network_claims.proofs.margins_are_exact.Tie as tie

returns : tie.Need-returns
returns c = margins_exact

pub margins_are_exact_spec : {M : Type 1} → statement M
margins_are_exact_spec = tie.close (tie.spec returns)
