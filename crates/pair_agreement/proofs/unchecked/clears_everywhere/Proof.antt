-- Every setting is clear where so many are as there are. Assumes nothing.
use borrow.Author.Rules.{rules}
use mathlib.Core.Path.{ap, ◌∙◌}
use Prim.Native.Nat.{ℕ}
use lib.Dec.{eqb}
use Rattle.pair_agreement.specs.GateLaws.{clear_all}
use Rattle.pair_agreement.proofs.unchecked.clears_everywhere.Statement.{statement}
use Rattle.pair_agreement.proofs.unchecked.clears_everywhere.Tie as tie

-- where the tables begin, from where both are lent
abbrev start_of : tie.After-sums_v-1 → tie.Start
start_of c =
    c.before.before.before.before.before.before

returns : tie.Need-returns
returns c =
    let s = start_of c.before.before in
    ap (λ (n : ℕ). eqb c.clear_settings.result n) c.settings.ensures
    ∙ clear_all s.requires.0 s.args.k s.args.l c.clear_settings.ensures

pub clears_everywhere_spec : {M : Type 1} → statement M
clears_everywhere_spec =
    tie.close (tie.spec (λ c κs. search rules) (λ c κs. search rules) (λ c κs. search rules) (λ c κs. search rules) returns)
