-- The record of the network that a read gives. Assumes nothing.
use borrow.Author.Rules.{rules}
use mathlib.Core.Path.{ap, ◌∙◌}
use Rattle.journal.specs.Records.{just_read}
use Rattle.front.specs.Front.{opened_file}
use Rattle.front.proofs.read.Statement.{statement}
use Rattle.front.proofs.read.Tie as tie

returns : tie.Need-returns
unfolding opened_file
returns c =
    let e = c.read-loaded.ensures in
    λ x. record { code = (e x).code; held = (c.just_read-held.ensures ∙ ap just_read (λ y. (e y).network)) x }

pub read_spec : {M : Type 1} → statement M
read_spec = tie.close (tie.spec (λ c κs. search rules) (λ c κs. search rules) returns)
