-- The tests before the settings, then that of the settings. Assumes nothing.
use Rattle.std.proofs.Common.{◌≡◌, ℕ, sym, ◌∙◌}
use Rattle.basics.specs.Refusals.{code_of}
use Rattle.refusals.specs.Numbers.{number_of}
use Rattle.refusals.specs.NumberLaws.{handed_on, number_not_0}
use Rattle.pair_theory.specs.Alignments.{Mergeable, AlignmentOnScale}
use Rattle.pair_theory.specs.declared.Alignment.{Alignment}
use Rattle.fold_edges.specs.Codes.{first_failing}
use Rattle.fold_edges.specs.CodeLaws.{code_after, code_before}
use Rattle.fold_merge.specs.Codes.{limit_tests_on, setting_tests, merge_tests_on}
use Rattle.fold_merge.specs.AlignedLaws.{limits_passed, limits_hold}
use Rattle.fold_merge.proofs.unchecked.merges.test_merge.Goals as goal

-- past the limits, those tests hold
mergeable : (a : Alignment) (k l : ℕ) → AlignmentOnScale a → 0 ≡ first_failing (limit_tests_on a k l) → Mergeable a k l
mergeable a k l fair e = limits_hold a k l (limits_passed a k l (sym e)) fair

pub returns-in_err-test_limits : goal.returns-in_err-test_limits
unfolding code_of merge_tests_on
returns-in_err-test_limits c =
    let e = c.in_err-test_limits.field-0.0 in
    let refusal = c.in_err-test_limits.ensures in
    rw (handed_on c.from_residual.ensures.1) (refusal ∙ sym (code_before _ _ (λ z. number_not_0 e (refusal ∙ z))))

pub agrees_everywhere-requires-clause-searchable : goal.agrees_everywhere-requires-clause-searchable
unfolding code_of
agrees_everywhere-requires-clause-searchable c = let a = c.args in (mergeable a.a a.k a.l c.requires c.in_ok-test_limits.ensures).searchable

pub agrees_everywhere-requires-clause-dial_limits : goal.agrees_everywhere-requires-clause-dial_limits
unfolding code_of
agrees_everywhere-requires-clause-dial_limits c = let a = c.args in (mergeable a.a a.k a.l c.requires c.in_ok-test_limits.ensures).dial

pub returns-then-not-agrees_everywhere : goal.returns-then-not-agrees_everywhere
unfolding code_of number_of first_failing merge_tests_on setting_tests
returns-then-not-agrees_everywhere c =
    let a = c.args in
    let differs = sym c.if-not-agrees_everywhere.ensures in
    sym (code_after (limit_tests_on a.a a.k a.l) _ (limits_passed a.a a.k a.l (sym c.in_ok-test_limits.ensures)) ∙ rw differs)

pub returns : goal.returns
unfolding code_of first_failing merge_tests_on setting_tests
returns c =
    let a = c.args in
    let agrees = sym c.if-not-agrees_everywhere.ensures in
    sym (code_after (limit_tests_on a.a a.k a.l) _ (limits_passed a.a a.k a.l (sym c.in_ok-test_limits.ensures)) ∙ rw agrees)
