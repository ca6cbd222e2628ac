-- The claim is a law. Assumes nothing.
use Rattle.compare_claims.proofs.FileLaws.{files_claim}
use Rattle.compare_claims.proofs.files_are_compared.Statement.{statement}
use Rattle.compare_claims.proofs.files_are_compared.Tie as tie

returns : tie.Need-returns
returns c = λ first second bf bs budget number before after h. files_claim first second bf bs budget number before after h

pub files_are_compared_spec : {M : Type 1} → statement M
files_are_compared_spec = tie.close (tie.spec returns)
