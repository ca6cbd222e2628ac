-- By the law of the same matter. Assumes nothing.
use Rattle.worked_examples.proofs.NetworkLaws.{sizes_are}
use Rattle.worked_examples.proofs.sizes_of_networks.Statement.{statement}
use Rattle.worked_examples.proofs.sizes_of_networks.Tie as tie

returns : tie.Need-returns
returns c = sizes_are

pub sizes_of_networks_spec : {M : Type 1} → statement M
sizes_of_networks_spec = tie.close (tie.spec returns)
