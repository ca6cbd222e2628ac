-- By the law of the same matter. Assumes nothing.
use Rattle.pmn_claims.proofs.ReadLaws.{read_alike}
use Rattle.pmn_claims.proofs.files_are_records.Statement.{statement}
use Rattle.pmn_claims.proofs.files_are_records.Tie as tie

returns : tie.Need-returns
returns c = read_alike

pub files_are_records_spec : {M : Type 1} → statement M
files_are_records_spec = tie.close (tie.spec returns)
