-- By the law of the same matter. Assumes nothing.
use Rattle.pmn_claims.proofs.CutLaws.{cut_claim}
use Rattle.pmn_claims.proofs.files_are_cut.Statement.{statement}
use Rattle.pmn_claims.proofs.files_are_cut.Tie as tie

returns : tie.Need-returns
returns c = cut_claim

pub files_are_cut_spec : {M : Type 1} → statement M
files_are_cut_spec = tie.close (tie.spec returns)
