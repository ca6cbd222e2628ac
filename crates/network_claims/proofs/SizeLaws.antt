-- The size report is as claimed. Assumes nothing.
use Rattle.std.specs.Prelude.{◌≡◌, refl, true, ℕ, ◌+◌, length}
use Rattle.std.proofs.Common.{sym, ap, ◌∙◌, subst}
use Rattle.basics.specs.Refusals.{accepted}
use Rattle.basics.specs.TestLaws.{T_is}
use Rattle.network.specs.Threshold.{Net}
use Rattle.network.specs.Sound.{Sound}
use Rattle.network.specs.Record.{net_of, layout, sound_record}
use Rattle.network.specs.RecordLaws.{ArrayLengths, layout_net_of, sound_net}
use Rattle.network.specs.declared.Network.{Network}
use Rattle.network_report.specs.Size.{cost, levels, report_of, reported}
use Rattle.network_report.proofs.ReportLaws.{report_layout}
use Rattle.network_report.specs.declared.SizeReport.{SizeReport}
use Rattle.network_claims.specs.Sizes.{LongestPath, sizes_of, Measured, ReportMeant}
use Rattle.network_claims.proofs.PathLaws.{longest}
use Rattle.network_claims.proofs.CostLaws.{cost_places}

pub report_meant : (r : Network) → ArrayLengths r → ReportMeant r
unfolding layout report_of
report_meant r shape e =
    let t = T_is (sound_record r) e in
    let N = net_of r in
    let n = sound_net r t in
    let same = layout_net_of r shape t in
    let is : reported r ≡ report_of (accepted N) = ap reported (sym same) ∙ report_layout N n in
    record {
      accepts = ap (λ (x : SizeReport). x.code) is;
      gates_are = ap (λ (x : SizeReport). x.gates) is ∙ ap (λ (x : Network). x.gates) same;
      cost_is = ap (λ (x : SizeReport). x.cost) is ∙ cost_places N.inputs N.gates n.all_gates n.few_gates.1
          ∙ ap (λ (x : Network). sizes_of x.weights + sizes_of x.thresholds) same;
      levels_are = subst (LongestPath N) (sym (ap (λ (x : SizeReport). x.levels) is)) (longest N n);
    }
