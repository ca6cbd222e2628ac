-- Every weight is tested, and then the threshold.
use Rattle.std.proofs.Common.{Bool, ℕ, ◌≡◌, sym, ap, ◌∙◌, pos, get_or, arith, rules, w32, SFits, to_z-of_z}
use borrow.Author.Tests.{tests}
use Rattle.std.proofs.lemmas.Iterator.{YieldsList-from_range}
use Rattle.std.proofs.lemmas.Iterator.Search.{all_from_yields_List}
use Rattle.basics.specs.Lists.{below}
use Rattle.network.specs.Limits.{in_scale}
use Rattle.fold_theory.specs.Aligned.{mix, mixed_weight}
use Rattle.pair_theory.specs.Alignments.{aligned_in}
use Rattle.pair_theory.specs.declared.Alignment.{Alignment}
use Rattle.pair_agreement.specs.GateLaws.{mix_is, threshold_is, weights_off, weights_on}
use Rattle.basics.specs.AllLaws.{all_range}
use Rattle.basics.specs.ListLaws.{below_same}
use Rattle.pair_agreement.proofs.unchecked.scale_fits.Goals as goal

-- a weight, by the two weights of which it is made
abbrev on_scale : Alignment → ℕ → ℕ → ℕ → Bool
on_scale a k l i = in_scale (mix k l (get_or a.us i (pos 0)) (get_or a.vs i (pos 0)))

same : (a : Alignment) (k l : ℕ) → below a.count (λ i. in_scale (mixed_weight (aligned_in a) k l i)) ≡ below a.count (on_scale a k l)
same a k l = below_same a.count _ _ (λ i h. ap in_scale (mix_is a k l i h))

pub returns-then-all : goal.returns-then-all
returns-then-all c =
    let a = c.args.a in
    let p = on_scale a c.args.k c.args.l in
    let all : c.all.result ≡ below a.count p
    = all_from_yields_List p _ _ c.all.result c.all.ensures.ran (YieldsList-from_range 0 a.count a.count (cc) (omega arith))
    (λ x b q k. search (rules, tests)) ∙ all_range p a.count in
    let fits : SFits w32 c.merged_threshold.result = search rules in
    c.in_scale.ensures ∙ ap in_scale (to_z-of_z fits ∙ c.merged_threshold.ensures ∙ sym (threshold_is a c.args.k c.args.l))
    ∙ sym (weights_on a c.requires.searchable c.args.k c.args.l (same a c.args.k c.args.l ∙ sym all ∙ c.if-all.true))

pub returns-else-all : goal.returns-else-all
returns-else-all c =
    let a = c.args.a in
    let p = on_scale a c.args.k c.args.l in
    let all : c.all.result ≡ below a.count p
    = all_from_yields_List p _ _ c.all.result c.all.ensures.ran (YieldsList-from_range 0 a.count a.count (cc) (omega arith))
    (λ x b q k. search (rules, tests)) ∙ all_range p a.count in
    c.if-all.false ∙ sym (weights_off a c.requires.searchable c.args.k c.args.l (same a c.args.k c.args.l ∙ sym all ∙ c.if-all.false))
