-- The refusals of u and v, then those of the merge; then the merged gate. Assumes nothing.
use Rattle.std.proofs.Common.{◌≡◌, true, ℕ, refl, sym, ap, ◌∙◌, subst}
use Rattle.basics.specs.Refusals.{code_of}
use Rattle.refusals.specs.Numbers.{number_of}
use Rattle.refusals.specs.NumberLaws.{handed_on, number_not_0}
use Rattle.network.specs.Record.{gate_record, sound_record}
use Rattle.network.specs.SoundLaws.{sound_board}
use Rattle.network.specs.declared.Network.{Network}
use Rattle.pair_theory.specs.Alignments.{alignment_of, merged_of, Mergeable}
use Rattle.pair_theory.specs.declared.Alignment.{Alignment}
use Rattle.fold_edges.specs.Edges.{edge_at}
use Rattle.fold_edges.specs.Codes.{first_failing, edge_tests_at}
use Rattle.fold_merge.specs.Codes.{merge_tests, merge_tests_on}
use Rattle.fold_merge.specs.AlignedLaws.{tests_on}
use Rattle.fold_merge.specs.CallLaws.{merge_apart, apart_gate, merge_refused, merge_accepted, merge_passed, merge_fits}
use Rattle.fold_merge.specs.CallLaws.{sound_gates, reads_in, edge_fits, edge_fair, fits_mergeable, fits_gate, tried_refused, tried_gate}
use Rattle.fold_merge.proofs.unchecked.merges.merged_at.Goals as goal

-- the number of the first test that fails
number_is : (r : Network) → sound_record r ≡ true → (u v k l : ℕ) → 0 ≡ first_failing (edge_tests_at r u v) → {a : Alignment} {n : ℕ}
    → a ≡ alignment_of (edge_at r u v) → n ≡ first_failing (merge_tests_on a k l) → n ≡ first_failing (merge_tests (edge_at r u v) k l)
number_is r s u v k l passes e n =
    n ∙ ap (λ (x : Alignment). first_failing (merge_tests_on x k l)) e ∙ tests_on (edge_at r u v) (edge_fits r s u v passes) k l

pub test_edge-requires : goal.test_edge-requires
test_edge-requires c = sound_gates c.args.network.now c.requires

pub returns-in_err-test_edge : goal.returns-in_err-test_edge
unfolding code_of
returns-in_err-test_edge c =
    let a = c.args in
    let e = c.in_err-test_edge.field-0.0 in
    tried_refused a.network.now a.u a.v a.k a.l _ e (handed_on c.from_residual.ensures.1)
    (merge_apart a.network.now c.requires a.u a.v (number_of e) c.in_err-test_edge.ensures (number_not_0 e) a.k a.l)

pub aligned_at-a-requires-clause-sound_gates : goal.aligned_at-a-requires-clause-sound_gates
aligned_at-a-requires-clause-sound_gates c = sound_gates c.args.network.now c.requires

pub aligned_at-a-requires-clause-reads_in : goal.aligned_at-a-requires-clause-reads_in
unfolding code_of
aligned_at-a-requires-clause-reads_in c = reads_in c.args.network.now c.requires c.args.u c.args.v c.in_ok-test_edge.ensures

pub aligned_at-a-requires-clause-t : goal.aligned_at-a-requires-clause-t
aligned_at-a-requires-clause-t c = sound_board c.args.network.now c.requires

pub test_merge-requires : goal.test_merge-requires
unfolding code_of
test_merge-requires c = edge_fair c.args.network.now c.requires c.args.u c.args.v c.in_ok-test_edge.ensures c.aligned_at-a.ensures

pub returns-in_err-test_merge : goal.returns-in_err-test_merge
unfolding code_of
returns-in_err-test_merge c =
    let a = c.args in
    let r = a.network.now in
    let e = c.in_err-test_merge.field-0.0 in
    let number = number_is r c.requires a.u a.v a.k a.l c.in_ok-test_edge.ensures c.aligned_at-a.ensures c.in_err-test_merge.ensures in
    tried_refused r a.u a.v a.k a.l _ e (handed_on c.from_residual-in_err-test_merge.ensures.1)
    (merge_refused r c.requires a.u a.v 0 c.in_ok-test_edge.ensures refl a.k a.l (number_of e) number (number_not_0 e))

pub merged_gate-requires : goal.merged_gate-requires
unfolding code_of
merged_gate-requires c =
    let a = c.args in
    let r = a.network.now in
    let number = number_is r c.requires a.u a.v a.k a.l c.in_ok-test_edge.ensures c.aligned_at-a.ensures c.in_ok-test_merge.ensures in
    subst (λ (x : Alignment). Mergeable x a.k a.l) (sym c.aligned_at-a.ensures)
    (fits_mergeable (edge_at r a.u a.v) a.k a.l (merge_fits _ _ _ (merge_passed _ a.k a.l 0 number refl))
    (edge_fits r c.requires a.u a.v c.in_ok-test_edge.ensures))

pub returns : goal.returns
unfolding code_of
returns c =
    let a = c.args in
    let r = a.network.now in
    let number = number_is r c.requires a.u a.v a.k a.l c.in_ok-test_edge.ensures c.aligned_at-a.ensures c.in_ok-test_merge.ensures in
    let passed = merge_passed _ a.k a.l 0 number refl in
    let gate = fits_gate (edge_at r a.u a.v) a.k a.l (merge_fits _ _ _ passed) c.merged_gate.result
    (c.merged_gate.ensures ∙ ap (λ (x : Alignment). gate_record (merged_of x a.k a.l)) c.aligned_at-a.ensures) in
    tried_gate r a.u a.v a.k a.l _ _ gate.0 gate.1 (apart_gate r c.requires a.u a.v 0 c.in_ok-test_edge.ensures refl)
    (merge_accepted r c.requires a.u a.v 0 c.in_ok-test_edge.ensures refl a.k a.l passed)
