-- By the law of the same matter. Assumes nothing.
use Rattle.worked_examples.proofs.NetworkLaws.{entries_are}
use Rattle.worked_examples.proofs.entries_by_name.Statement.{statement}
use Rattle.worked_examples.proofs.entries_by_name.Tie as tie

returns : tie.Need-returns
returns c = entries_are

pub entries_by_name_spec : {M : Type 1} → statement M
entries_by_name_spec = tie.close (tie.spec returns)
