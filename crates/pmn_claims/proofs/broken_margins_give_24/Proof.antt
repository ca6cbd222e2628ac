-- By the law of the same matter. Assumes nothing.
use Rattle.pmn_claims.proofs.MarginLaws.{margins_of_file}
use Rattle.pmn_claims.proofs.broken_margins_give_24.Statement.{statement}
use Rattle.pmn_claims.proofs.broken_margins_give_24.Tie as tie

returns : tie.Need-returns
returns c = margins_of_file

pub broken_margins_give_24_spec : {M : Type 1} → statement M
broken_margins_give_24_spec = tie.close (tie.spec returns)
