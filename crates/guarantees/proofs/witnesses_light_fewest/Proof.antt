-- By the law of the same matter. Assumes nothing.
use Rattle.guarantees.proofs.WitnessLaws.{lights_fewest}
use Rattle.guarantees.proofs.witnesses_light_fewest.Statement.{statement}
use Rattle.guarantees.proofs.witnesses_light_fewest.Tie as tie

returns : tie.Need-returns
returns c = lights_fewest c.args.held

pub witnesses_light_fewest_spec : {M : Type 1} → statement M
witnesses_light_fewest_spec = tie.close (tie.spec returns)
