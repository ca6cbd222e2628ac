-- By computing. Assumes nothing.
use Rattle.question_count.proofs.ExampleLaws.{three_ways}
use Rattle.question_count.proofs.three_ways.Statement.{statement}
use Rattle.question_count.proofs.three_ways.Tie as tie

returns : tie.Need-returns
returns c = three_ways

pub three_ways_spec : {M : Type 1} → statement M
three_ways_spec = tie.close (tie.spec returns)
