-- The tests before the settings, then the pass without margins. Assumes nothing.
use Rattle.std.proofs.Common.{◌≡◌, ℕ, ◌^◌, sym, ap, ◌∙◌, subst}
use Rattle.basics.specs.Refusals.{code_of}
use Rattle.refusals.specs.Numbers.{number_of}
use Rattle.refusals.specs.NumberLaws.{number_not_0}
use Rattle.fold_theory.specs.Aligned.{clears_on}
use Rattle.pair_theory.specs.Alignments.{aligned_in, AlignmentOnScale, Mergeable}
use Rattle.pair_theory.specs.declared.Alignment.{Alignment}
use Rattle.pair_agreement.specs.GateLaws.{plain_searchable}
use Rattle.pair_witness.specs.Pass.{FewestUnclear}
use Rattle.fold_edges.specs.Codes.{first_failing}
use Rattle.fold_merge.specs.Codes.{limit_tests_on}
use Rattle.fold_merge.specs.AlignedLaws.{limits_passed, limits_hold}
use Rattle.fold_witness.specs.Parts.{no_witness}
use Rattle.fold_witness.specs.WitnessLaws.{found_shows, plain_differs, limited, unlimited}
use Rattle.fold_witness.proofs.unchecked.witness_of.Goals as goal

-- past these tests the settings can be tried
mergeable : (a : Alignment) (k l : ℕ) → AlignmentOnScale a → 0 ≡ first_failing (limit_tests_on a k l) → Mergeable a k l
mergeable a k l fair e = limits_hold a k l (limits_passed a k l (sym e)) fair

pub returns-in-Err : goal.returns-in-Err
unfolding code_of
returns-in-Err c =
    let a = c.args in
    let e = c.in-Err.refusal in
    limited a.a a.k a.l (number_of e) c.in-Err.ensures (number_not_0 e) (c.none.ensures ∙ ap no_witness c.number.ensures)

pub fewest_of-requires : goal.fewest_of-requires
unfolding code_of
fewest_of-requires c =
    let a = c.args in
    let m = mergeable a.a a.k a.l c.requires c.in_default.ensures in
    subst (λ (x : Alignment). Mergeable x a.k a.l) (sym c.without_margins.ensures)
    (record { searchable = plain_searchable a.a m.searchable; dial = m.dial })

pub returns : goal.returns
unfolding code_of
returns c =
    let a = c.args in
    let plain = plain_searchable a.a (mergeable a.a a.k a.l c.requires c.in_default.ensures).searchable in
    let found = subst (λ (x : Alignment). FewestUnclear (2 ^ x.count) (clears_on (aligned_in x) a.k a.l) c.fewest_of.result)
    c.without_margins.ensures c.fewest_of.ensures in
    unlimited a.a a.k a.l (sym c.in_default.ensures)
    (plain_differs a.a a.k a.l (found_shows _ plain a.k a.l c.fewest_of.result found c.shown.ensures))
