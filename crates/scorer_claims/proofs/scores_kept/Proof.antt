-- By the law of the same name. Assumes nothing.
use Rattle.scorer_claims.proofs.FoldingLaws.{scores_kept}
use Rattle.scorer_claims.proofs.scores_kept.Statement.{statement}
use Rattle.scorer_claims.proofs.scores_kept.Tie as tie

returns : tie.Need-returns
returns c = scores_kept

pub scores_kept_spec : {M : Type 1} → statement M
scores_kept_spec = tie.close (tie.spec returns)
