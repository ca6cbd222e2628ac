-- By the law of the calls' numbers. Assumes nothing.
use Rattle.guarantees.proofs.ThirteenLaws.{never_thirteen}
use Rattle.guarantees.proofs.thirteen_is_never_given.Statement.{statement}
use Rattle.guarantees.proofs.thirteen_is_never_given.Tie as tie

returns : tie.Need-returns
returns c = never_thirteen c.args.held

pub thirteen_is_never_given_spec : {M : Type 1} → statement M
thirteen_is_never_given_spec = tie.close (tie.spec returns)
