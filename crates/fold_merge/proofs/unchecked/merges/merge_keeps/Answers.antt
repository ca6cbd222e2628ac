-- The merged gate's places stand for it, and it is within the limits. Assumes nothing.
use Rattle.std.proofs.Common.{◌≡◌, ℕ, T, ap, ◌∙◌}
use Rattle.network.specs.Limits.{keeps}
use Rattle.network.specs.Record.{gate_in, gate_record}
use Rattle.network.specs.PlaceLaws.{gate_in_gate_record}
use Rattle.network.specs.MarginLaws.{record_on_scale}
use Rattle.network.specs.declared.GateRecord.{GateRecord}
use Rattle.pair_theory.specs.Alignments.{aligned_in, merged_of, Mergeable}
use Rattle.pair_theory.specs.declared.Alignment.{Alignment}
use Rattle.fold_theory.specs.Aligned.{scale_fits}
use Rattle.fold_merge.specs.AlignedLaws.{merged_scaled}
use Rattle.fold_merge.proofs.unchecked.merges.merge_keeps.Goals as goal

-- the gate that was made
made : (a : Alignment) (k l : ℕ) (gate : GateRecord) → Mergeable a k l → T (scale_fits (aligned_in a) k l) → gate ≡ gate_record (merged_of a k l)
    → gate_in gate ≡ merged_of a k l
made a k l gate m t is = ap gate_in is ∙ gate_in_gate_record _ (merged_scaled a k l m.searchable t).0

pub gate_keeps-requires : goal.gate_keeps-requires
gate_keeps-requires c =
    let a = c.args in
    let scaled = merged_scaled a.a a.k a.l c.requires.mergeable.searchable c.requires.t in
    record_on_scale c.merged_gate.result _ (made a.a a.k a.l _ c.requires.mergeable c.requires.t c.merged_gate.ensures) scaled.0 scaled.1

pub returns : goal.returns
returns c =
    let a = c.args in
    c.gate_keeps.ensures ∙ ap (keeps a.a.thresholds.board) (made a.a a.k a.l _ c.requires.mergeable c.requires.t c.merged_gate.ensures)
