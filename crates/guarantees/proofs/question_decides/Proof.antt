-- By the laws of the question. Assumes nothing.
use Rattle.guarantees.proofs.QuestionLaws.{questions}
use Rattle.guarantees.proofs.question_decides.Statement.{statement}
use Rattle.guarantees.proofs.question_decides.Tie as tie

returns : tie.Need-returns
returns c = questions c.args.first c.args.second

pub question_decides_spec : {M : Type 1} → statement M
question_decides_spec = tie.close (tie.spec returns)
