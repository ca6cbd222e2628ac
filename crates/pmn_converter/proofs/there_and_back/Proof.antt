-- By the law of the same name. Assumes nothing.
use Rattle.pmn_converter.specs.ClaimLaws.{there_and_back}
use Rattle.pmn_converter.proofs.there_and_back.Statement.{statement}
use Rattle.pmn_converter.proofs.there_and_back.Tie as tie

returns : tie.Need-returns
returns c = there_and_back

pub there_and_back_spec : {M : Type 1} → statement M
there_and_back_spec = tie.close (tie.spec returns)
