-- By computing. Assumes nothing.
use Rattle.compare_claims.proofs.ExampleLaws.{example_verdicts}
use Rattle.compare_claims.proofs.verdicts_of_networks.Statement.{statement}
use Rattle.compare_claims.proofs.verdicts_of_networks.Tie as tie

returns : tie.Need-returns
returns c = example_verdicts

pub verdicts_of_networks_spec : {M : Type 1} → statement M
verdicts_of_networks_spec = tie.close (tie.spec returns)
