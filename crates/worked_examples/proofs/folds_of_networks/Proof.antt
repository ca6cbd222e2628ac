-- By the law of the same matter. Assumes nothing.
use Rattle.worked_examples.proofs.FoldLaws.{folded}
use Rattle.worked_examples.proofs.folds_of_networks.Statement.{statement}
use Rattle.worked_examples.proofs.folds_of_networks.Tie as tie

returns : tie.Need-returns
returns c = folded

pub folds_of_networks_spec : {M : Type 1} → statement M
folds_of_networks_spec = tie.close (tie.spec returns)
