-- The two sums of a setting are read from the tables. Assumes nothing.
use mathlib.Core.Path.{ap₂}
use mathlib.Core.Bool.{Bool, not, ◌&&◌}
use mir.Syntax.{w32}
use borrow.Author.Rules.{rules}
use Rattle.basics.specs.SizeLaws.{read_back}
use Rattle.pair_search.proofs.unchecked.rules_out_k.Statement.{statement}
use Rattle.pair_search.proofs.unchecked.rules_out_k.Tie as tie

returns : tie.Need-returns
returns c =
    let su = read_back w32 c.sum_at-su.type_inv c.sum_at-su.ensures in
    let sv = read_back w32 c.sum_at-sv.type_inv c.sum_at-sv.ensures in
    ap₂ (λ (x y : Bool). x && not y) (rw (su, sv) at c.bounds_below.ensures) c.clears_at.ensures

pub rules_out_k_spec : {M : Type 1} → statement M
rules_out_k_spec =
    tie.close (tie.spec (λ c κs. search rules) (λ c κs. search rules) (λ c κs. search rules) (λ c κs. search rules) returns)
