-- The two sums of a setting are read from the tables. Assumes nothing.
use mir.Syntax.{w32}
use borrow.Author.Rules.{rules}
use Rattle.basics.specs.SizeLaws.{read_back}
use Rattle.pair_search.proofs.unchecked.bounds_above_at.Statement.{statement}
use Rattle.pair_search.proofs.unchecked.bounds_above_at.Tie as tie

returns : tie.Need-returns
returns c =
    let su = read_back w32 c.sum_at-su.type_inv c.sum_at-su.ensures in
    let sv = read_back w32 c.sum_at-sv.type_inv c.sum_at-sv.ensures in
    rw (su, sv) at c.bounds_above.ensures

pub bounds_above_at_spec : {M : Type 1} → statement M
bounds_above_at_spec =
    tie.close (tie.spec (λ c κs. search rules) (λ c κs. search rules) (λ c κs. search rules) returns)
