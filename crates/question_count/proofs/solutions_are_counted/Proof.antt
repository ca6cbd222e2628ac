-- By the law of counts on records. Assumes nothing.
use Rattle.question_count.proofs.ClaimLaws.{counts}
use Rattle.question_count.proofs.solutions_are_counted.Statement.{statement}
use Rattle.question_count.proofs.solutions_are_counted.Tie as tie

returns : tie.Need-returns
returns c = counts c.args.first c.args.second

pub solutions_are_counted_spec : {M : Type 1} → statement M
solutions_are_counted_spec = tie.close (tie.spec returns)
