-- By the law of the same matter. Assumes nothing.
use Rattle.guarantees.proofs.PairLaws.{pair_on_lem}
use Rattle.guarantees.proofs.pairs_are_least.Statement.{statement}
use Rattle.guarantees.proofs.pairs_are_least.Tie as tie

returns : tie.Need-returns
returns c = pair_on_lem c.args.held

pub pairs_are_least_spec : {M : Type 1} → statement M
pairs_are_least_spec = tie.close (tie.spec returns)
