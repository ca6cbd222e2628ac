-- The sign of b is told by the two thresholds, and where it is negative the complement votes.
use Rattle.std.proofs.Common.{Bool, true, false, ◌≡◌, sym, ap, ◌∙◌, subst, w32, SFits, to_z, of_z, to_z-of_z, rules}
use Rattle.std.specs.Int.Signed.{le_z}
use Rattle.fold_theory.specs.Merge.{Edge, votes_for}
use Rattle.pair_theory.specs.Alignments.{edge_between, with_u, complement_in, AlignmentOnScale}
use Rattle.pair_theory.proofs.AlignmentLaws.{for_u, against_u, sign_is, with_u_fair}
use Rattle.pair_theory.specs.declared.Alignment.{Alignment}
use Rattle.pair_alignment.proofs.unchecked.align.Goals as goal

pub complemented-requires : goal.complemented-requires
complemented-requires c = subst AlignmentOnScale (sym c.align_with_u-a.ensures) (with_u_fair _ c.requires.ok)

-- the sign of b, as it is tested
tested : (e : Edge) (a : Alignment) (w : Bool) → SFits w32 a.thresholds.on → SFits w32 a.thresholds.off → a ≡ with_u e
    → le_z (to_z w32 (of_z w32 a.thresholds.on)) (to_z w32 (of_z w32 a.thresholds.off)) ≡ w → votes_for e ≡ w
tested e a w on off is h =
    sign_is e ∙ sym (ap (λ (a : Alignment). le_z a.thresholds.on a.thresholds.off) is) ∙ (rw (to_z-of_z on, to_z-of_z off) at h)

pub returns-then-t : goal.returns-then-t
returns-then-t c =
    let e = edge_between c.args.board c.args.gate_u c.args.gate_v c.args.u c.args.v in
    c.align_with_u-a.ensures ∙ sym (for_u e (tested e c.align_with_u-a.result true (search rules) (search rules) c.align_with_u-a.ensures c.if-t.true))

pub returns : goal.returns
returns c =
    let e = edge_between c.args.board c.args.gate_u c.args.gate_v c.args.u c.args.v in
    c.complemented.ensures ∙ ap complement_in c.align_with_u-a.ensures
    ∙ sym (against_u e (tested e c.align_with_u-a.result false (search rules) (search rules) c.align_with_u-a.ensures c.if-t.false))
