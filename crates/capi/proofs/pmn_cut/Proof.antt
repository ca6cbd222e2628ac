-- By what the call below promises. Assumes nothing.
use borrow.Author.Rules.{rules}
use Rattle.capi.proofs.pmn_cut.Statement.{statement}
use Rattle.capi.proofs.pmn_cut.Tie as tie

returns : tie.Need-returns
returns c = c.cut_file.ensures

pub pmn_cut_spec : {M : Type 1} → statement M
pmn_cut_spec = tie.close (tie.spec (λ c κs. search rules) (λ c. search rules) (λ c. search rules) returns)
