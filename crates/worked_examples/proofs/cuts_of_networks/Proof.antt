-- By the law of the same matter. Assumes nothing.
use Rattle.worked_examples.proofs.NetworkLaws.{cuts_are}
use Rattle.worked_examples.proofs.cuts_of_networks.Statement.{statement}
use Rattle.worked_examples.proofs.cuts_of_networks.Tie as tie

returns : tie.Need-returns
returns c = cuts_are

pub cuts_of_networks_spec : {M : Type 1} → statement M
cuts_of_networks_spec = tie.close (tie.spec returns)
