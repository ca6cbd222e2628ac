-- By the law of the same matter. Assumes nothing.
use Rattle.guarantees.proofs.JournalLaws.{newest_64}
use Rattle.guarantees.proofs.newest_64_are_kept.Statement.{statement}
use Rattle.guarantees.proofs.newest_64_are_kept.Tie as tie

returns : tie.Need-returns
returns c = newest_64

pub newest_64_are_kept_spec : {M : Type 1} → statement M
newest_64_are_kept_spec = tie.close (tie.spec returns)
