-- By what the call below promises. Assumes nothing.
use borrow.Author.Rules.{rules}
use Rattle.front.proofs.cut.Statement.{statement}
use Rattle.front.proofs.cut.Tie as tie

returns : tie.Need-returns
returns c = c.cut.ensures

pub cut_spec : {M : Type 1} → statement M
cut_spec = tie.close (tie.spec (λ c κs. search rules) returns)
