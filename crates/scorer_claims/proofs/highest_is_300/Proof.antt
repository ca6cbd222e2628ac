-- By the law of the highest score. Assumes nothing.
use Rattle.scorer_theory.proofs.HighestLaws.{highest_score}
use Rattle.scorer_claims.proofs.highest_is_300.Statement.{statement}
use Rattle.scorer_claims.proofs.highest_is_300.Tie as tie

returns : tie.Need-returns
returns c = highest_score

pub highest_is_300_spec : {M : Type 1} → statement M
highest_is_300_spec = tie.close (tie.spec returns)
