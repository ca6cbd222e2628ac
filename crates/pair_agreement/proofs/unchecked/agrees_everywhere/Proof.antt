-- Agreement is clearing without margins. Assumes nothing.
use mathlib.Core.Path.{sym, ap, ◌∙◌, subst}
use borrow.Author.Rules.{rules}
use Rattle.fold_theory.specs.Aligned.{clears_all}
use Rattle.pair_theory.specs.Alignments.{aligned_in, Searchable}
use Rattle.pair_theory.specs.declared.Alignment.{Alignment}
use Rattle.pair_agreement.specs.GateLaws.{plain_searchable, plain_all}
use Rattle.pair_agreement.proofs.unchecked.agrees_everywhere.Statement.{statement}
use Rattle.pair_agreement.proofs.unchecked.agrees_everywhere.Tie as tie

clears_everywhere_requires : tie.Need-clears_everywhere-requires
clears_everywhere_requires c κs =
    (subst Searchable (sym c.without_margins.ensures) (plain_searchable c.args.a c.requires.0), c.requires.1)

returns : tie.Need-returns
returns c =
    let k = c.args.k in
    let l = c.args.l in
    c.clears_everywhere.ensures ∙ ap (λ (a : Alignment). clears_all (aligned_in a) k l) c.without_margins.ensures ∙ plain_all c.args.a k l

pub agrees_everywhere_spec : {M : Type 1} → statement M
agrees_everywhere_spec = tie.close (tie.spec (λ c κs. search rules) clears_everywhere_requires returns)
