-- By the law of the same matter. Assumes nothing.
use Rattle.worked_examples.proofs.GameLaws.{games_played}
use Rattle.worked_examples.proofs.games_on_networks.Statement.{statement}
use Rattle.worked_examples.proofs.games_on_networks.Tie as tie

returns : tie.Need-returns
returns c = games_played

pub games_on_networks_spec : {M : Type 1} → statement M
games_on_networks_spec = tie.close (tie.spec returns)
