-- The refusals of u and v, then the pair of the two gates. Assumes nothing.
use Rattle.std.proofs.Common.{refl, sym, ap, ◌∙◌}
use Rattle.basics.specs.Refusals.{code_of}
use Rattle.refusals.specs.Numbers.{number_of}
use Rattle.refusals.specs.NumberLaws.{handed_on, number_not_0}
use Rattle.network.specs.SoundLaws.{sound_board}
use Rattle.fold_edges.specs.Edges.{edge_at}
use Rattle.fold_merge.specs.CallLaws.{sound_gates, reads_in, edge_fits, edge_fair}
use Rattle.fold_pair.specs.Answers.{as_pair}
use Rattle.fold_pair.specs.Parts.{pair_of_alignment}
use Rattle.fold_pair.specs.PairLaws.{pair_apart, pair_joined, pair_on_lem}
use Rattle.fold_pair.proofs.unchecked.pair_at.Goals as goal

pub test_edge-requires : goal.test_edge-requires
test_edge-requires c = sound_gates c.args.network.now c.requires

pub returns-in_err-test_edge : goal.returns-in_err-test_edge
unfolding code_of
returns-in_err-test_edge c =
    let a = c.args in
    let e = c.in_err-test_edge.field-0.0 in
    rw (handed_on c.from_residual.ensures.1)
    (sym (pair_apart a.network.now c.requires a.u a.v (number_of e) c.in_err-test_edge.ensures (number_not_0 e)))

pub aligned_at-requires-clause-sound_gates : goal.aligned_at-requires-clause-sound_gates
aligned_at-requires-clause-sound_gates c = sound_gates c.args.network.now c.requires

pub aligned_at-requires-clause-reads_in : goal.aligned_at-requires-clause-reads_in
unfolding code_of
aligned_at-requires-clause-reads_in c = reads_in c.args.network.now c.requires c.args.u c.args.v c.in_ok-test_edge.ensures

pub aligned_at-requires-clause-t : goal.aligned_at-requires-clause-t
aligned_at-requires-clause-t c = sound_board c.args.network.now c.requires

pub pair_of-requires : goal.pair_of-requires
unfolding code_of
pair_of-requires c = edge_fair c.args.network.now c.requires c.args.u c.args.v c.in_ok-test_edge.ensures c.aligned_at.ensures

pub returns : goal.returns
unfolding code_of
returns c =
    let a = c.args in
    let r = a.network.now in
    ap as_pair (c.pair_of.ensures ∙ ap pair_of_alignment c.aligned_at.ensures
    ∙ pair_on_lem (edge_at r a.u a.v) (edge_fits r c.requires a.u a.v c.in_ok-test_edge.ensures))
    ∙ sym (pair_joined r c.requires a.u a.v 0 c.in_ok-test_edge.ensures refl)
