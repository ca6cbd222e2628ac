-- By the law of the same matter. Assumes nothing.
use Rattle.network_claims.proofs.FoldLaws.{all_merged_lem}
use Rattle.network_claims.proofs.readers_get_their_pairs.Statement.{statement}
use Rattle.network_claims.proofs.readers_get_their_pairs.Tie as tie

returns : tie.Need-returns
returns c = all_merged_lem

pub readers_get_their_pairs_spec : {M : Type 1} → statement M
readers_get_their_pairs_spec = tie.close (tie.spec returns)
