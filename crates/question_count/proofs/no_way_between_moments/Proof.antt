-- By the law of moments. Assumes nothing.
use Rattle.question_count.proofs.ClaimLaws.{moment_claim}
use Rattle.question_count.proofs.no_way_between_moments.Statement.{statement}
use Rattle.question_count.proofs.no_way_between_moments.Tie as tie

returns : tie.Need-returns
returns c = moment_claim

pub no_way_between_moments_spec : {M : Type 1} → statement M
no_way_between_moments_spec = tie.close (tie.spec returns)
