-- A preview is the report of the record that a collapse leaves, or the collapse's refusal. Assumes nothing.
use Rattle.std.specs.Prelude.{◌≡◌, true, false, ℕ}
use Rattle.std.proofs.Math.Path.{sym, ap}
use Rattle.std.proofs.Common.{◌∙◌}
use mathlib.Core.List.{[]}
use Rattle.basics.specs.Refusals.{Answer, accepted, refused}
use Rattle.basics.specs.RefusalLaws.{checks_first, checks_next, checks_none}
use Rattle.basics.specs.TestLaws.{is_true}
use Rattle.network.specs.Threshold.{Net}
use Rattle.network.specs.Sound.{Sound}
use Rattle.network.specs.Record.{net_of, layout, sound_record}
use Rattle.network.specs.RecordLaws.{sound_layout}
use Rattle.network.specs.declared.Network.{Network}
use Rattle.network_report.specs.Size.{report_of, reported}
use Rattle.network_report.proofs.ReportLaws.{report_layout}
use Rattle.fold_theory.specs.Collapse.{collapse}
use Rattle.fold_theory.proofs.StepLaws.{collapse_kept}
use Rattle.fold_merge.specs.Answers.{on_record}
use Rattle.fold_preview.specs.Preview.{previewed}

-- the report of a sound record has code 0
pub reported_code : (r : Network) → sound_record r ≡ true → (reported r).code ≡ 0
unfolding reported report_of
reported_code r e = ap (λ (a : Answer Net). (report_of a).code) (checks_next (sound_record r) 20 [] _ e ∙ checks_none (accepted (net_of r)))

module _ (r : Network) (s : ℕ) where
  -- a broken record
  pub preview_broken : sound_record r ≡ false → previewed r s ≡ record { code = 20; gates = 0; cost = 0; levels = 0 }
  unfolding previewed on_record report_of
  preview_broken e = ap report_of (checks_first (sound_record r) 20 [] (collapse (net_of r) s) e)

  module _ (whole : sound_record r ≡ true) where
    of_sound : on_record r (λ N. collapse N s) ≡ collapse (net_of r) s
    unfolding on_record
    of_sound = checks_next (sound_record r) 20 [] _ whole ∙ checks_none (collapse (net_of r) s)

    -- a refused collapse: its number, and 0 for each figure
    pub preview_refused : (c : ℕ) → collapse (net_of r) s ≡ refused c → previewed r s ≡ record { code = c; gates = 0; cost = 0; levels = 0 }
    unfolding previewed report_of
    preview_refused c e = ap report_of (of_sound ∙ e)

    -- an accepted one: the record that it leaves is sound, and its report is the preview
    module _ (M : Net) (e : collapse (net_of r) s ≡ accepted M) where
      left_sound : Sound M
      left_sound = (collapse_kept (net_of r) s M e).all_kept.sound

      pub preview_sound : sound_record (layout M) ≡ true
      preview_sound = is_true (sound_record (layout M)) (sound_layout M left_sound)

      pub preview_shown : previewed r s ≡ reported (layout M)
      unfolding previewed
      preview_shown = ap report_of (of_sound ∙ e) ∙ sym (report_layout M left_sound)
