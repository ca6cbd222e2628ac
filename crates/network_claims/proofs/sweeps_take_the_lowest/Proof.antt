-- By the law of the same matter. Assumes nothing.
use Rattle.network_claims.proofs.FoldLaws.{sweep_claim}
use Rattle.network_claims.proofs.sweeps_take_the_lowest.Statement.{statement}
use Rattle.network_claims.proofs.sweeps_take_the_lowest.Tie as tie

returns : tie.Need-returns
returns c = sweep_claim

pub sweeps_take_the_lowest_spec : {M : Type 1} → statement M
sweeps_take_the_lowest_spec = tie.close (tie.spec returns)
