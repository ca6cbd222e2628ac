-- The claim is a law. Assumes nothing.
use Rattle.compare_claims.proofs.ClaimLaws.{compare_claim}
use Rattle.compare_claims.proofs.verdicts_are_true.Statement.{statement}
use Rattle.compare_claims.proofs.verdicts_are_true.Tie as tie

returns : tie.Need-returns
returns c = compare_claim c.args.first c.args.second c.args.budget

pub verdicts_are_true_spec : {M : Type 1} → statement M
verdicts_are_true_spec = tie.close (tie.spec returns)
