-- By the law of the same matter. Assumes nothing.
use Rattle.guarantees.proofs.RecordLaws.{record_claim}
use Rattle.guarantees.proofs.any_record_and_call.Statement.{statement}
use Rattle.guarantees.proofs.any_record_and_call.Tie as tie

returns : tie.Need-returns
returns c = record_claim c.args.held

pub any_record_and_call_spec : {M : Type 1} → statement M
any_record_and_call_spec = tie.close (tie.spec returns)
