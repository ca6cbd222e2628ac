-- The longest file has room, so the writing gives the file's length.
use borrow.Author.Rules.{rules}
use Rattle.call_runs.proofs.RunLaws.{length_written}
use Rattle.call_lists.proofs.unchecked.file_length.Statement.{statement}
use Rattle.call_lists.proofs.unchecked.file_length.Tie as tie

returns : tie.Need-returns
returns c =
    length_written c.args.network c.requires _ (search rules) c.write-written.ensures.0

pub file_length_spec : {M : Type 1} → statement M
file_length_spec = tie.close (tie.spec (λ c. search rules) (λ c κs. search rules) returns)
