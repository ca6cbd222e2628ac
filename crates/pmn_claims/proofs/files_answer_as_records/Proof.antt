-- By the law of the same matter. Assumes nothing.
use Rattle.pmn_claims.proofs.AnswerLaws.{files_as_records}
use Rattle.pmn_claims.proofs.files_answer_as_records.Statement.{statement}
use Rattle.pmn_claims.proofs.files_answer_as_records.Tie as tie

returns : tie.Need-returns
returns c = files_as_records

pub files_answer_as_records_spec : {M : Type 1} → statement M
files_answer_as_records_spec = tie.close (tie.spec returns)
