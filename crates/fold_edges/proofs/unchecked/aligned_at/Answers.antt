-- The places of the two gates stand for them, and they are within the limits. Assumes nothing.
use Rattle.std.proofs.Common.{◌≡◌, sym, ap, ◌∙◌, subst}
use Rattle.pair_theory.specs.Alignments as alignments
use Rattle.pair_theory.specs.Alignments.{Alignable, alignment_of}
use Rattle.fold_edges.specs.Edges.{edge_at}
use Rattle.fold_edges.specs.EdgeLaws.{joined_alignable, joined_rows}
use Rattle.fold_edges.proofs.unchecked.aligned_at.Goals as goal
use Rattle.fold_edges.proofs.unchecked.aligned_at.Goals.{After-gate_at-gate_v}

-- the two gates taken out are those of the record
same : (c : After-gate_at-gate_v) → let n = c.args.network.now in
    alignments.edge_between n.board c.gate_at-gate_u.result c.gate_at-gate_v.result c.args.u c.args.v ≡ edge_at n c.args.u c.args.v
same c = let r = c.requires in
    joined_rows r.sound_gates r.reads_in r.t c.gate_at-gate_u.result c.gate_at-gate_v.result c.gate_at-gate_u.ensures c.gate_at-gate_v.ensures

pub align-requires : goal.align-requires
align-requires c = let r = c.requires in subst Alignable (sym (same c.before)) (joined_alignable r.sound_gates r.reads_in r.t)

pub returns : goal.returns
returns c = c.align.ensures ∙ ap alignment_of (same c.before.before)
