-- By the law of the same matter. Assumes nothing.
use Rattle.pmn_claims.proofs.ConverterLaws.{converter_claim}
use Rattle.pmn_claims.proofs.versions_are_converted.Statement.{statement}
use Rattle.pmn_claims.proofs.versions_are_converted.Tie as tie

returns : tie.Need-returns
returns c = converter_claim

pub versions_are_converted_spec : {M : Type 1} → statement M
versions_are_converted_spec = tie.close (tie.spec returns)
