-- A gate that does not read u has no pair; a reader's is what the pair search gives. Assumes nothing.
use Rattle.std.proofs.Common.{sym, ap, ◌∙◌, subst, arith}
use borrow.Author.Tests.{not-true, not-false}
use Rattle.fold_theory.specs.Merge.{reads}
use Rattle.fold_theory.specs.Pair.{pair_of}
use Rattle.pair_theory.specs.Alignments.{AlignmentOnScale}
use Rattle.pair_theory.proofs.AlignmentLaws.{aligned_fair}
use Rattle.fold_pair.specs.Parts.{pair_of_alignment}
use Rattle.fold_pair.specs.PairLaws.{pair_on_lem}
use Rattle.fold_readers.specs.ArrayLaws.{lent_counted}
use Rattle.fold_edges.specs.EdgeLaws.{joined_ok}
use Rattle.network.specs.Record.{gate_of}
use Rattle.fold_reader_pairs.specs.Collapsing.{edge_to}
use Rattle.fold_reader_pairs.specs.CollapsingLaws.{pair_silent, pair_reader}
use Rattle.fold_reader_pairs.proofs.PairingLaws.{edge_number, joined_number}
use Rattle.fold_reader_pairs.proofs.unchecked.reader_pair.Goals as goal

pub reads_gate-requires : goal.reads_gate-requires
reads_gate-requires c = let n = lent_counted c.requires.0 in (omega (arith, n.few_gates), n.few_feeds _ c.requires.2)

pub returns-then-not-reads_gate : goal.returns-then-not-reads_gate
unfolding reads
returns-then-not-reads_gate c =
    let a = c.args in
    let r = a.network.now in
    rw (pair_silent (edge_to r.board (gate_of r) r.inputs a.u a.g) (not-false _ (sym c.if-not-reads_gate.ensures)))

pub pair_of-requires : goal.pair_of-requires
pair_of-requires c =
    let a = c.args in
    let joined = joined_number a.network.now a.u a.g c.requires.1 c.requires.2 (sym c.if-not-reads_gate.ensures) in
    subst AlignmentOnScale (sym c.aligned_at.ensures) (aligned_fair _ (joined_ok c.requires.0 joined c.requires.3))

pub returns : goal.returns
unfolding reads
returns c =
    let a = c.args in
    let r = a.network.now in
    let joined = joined_number r a.u a.g c.requires.1 c.requires.2 (sym c.if-not-reads_gate.ensures) in
    c.pair_of.ensures
    ∙ ap pair_of_alignment c.aligned_at.ensures ∙ pair_on_lem _ (joined_ok c.requires.0 joined c.requires.3)
    ∙ ap pair_of (edge_number r a.u a.g) ∙ sym (pair_reader (edge_to r.board (gate_of r) r.inputs a.u a.g) (not-true _ (sym c.if-not-reads_gate.ensures)))
