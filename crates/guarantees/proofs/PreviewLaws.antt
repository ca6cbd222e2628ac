-- Previews are as claimed. Assumes nothing.
use Rattle.std.specs.Prelude.{◌≡◌, refl, true, false, ℕ}
use Rattle.std.proofs.Math.Path.{sym, ap}
use Rattle.std.proofs.Common.{◌∙◌, arith}
use Rattle.basics.specs.Refusals.{Answer, accepted, refused, bind}
use Rattle.network.specs.Threshold.{Net}
use Rattle.network.specs.Record.{net_of, layout}
use Rattle.network.specs.RecordLaws.{ArrayLengths, net_of_layout}
use Rattle.network_report.specs.Size.{report_of}
use Rattle.network_report.specs.declared.SizeReport.{SizeReport}
use Rattle.fold_theory.specs.Collapse.{collapse}
use Rattle.fold_theory.proofs.StepLaws.{collapse_kept}
use Rattle.fold_theory.proofs.RefusalLaws.{Numbered}
use Rattle.fold_theory.proofs.NumberLaws.{collapse_numbered}
use Rattle.call_theory.specs.Calls.{no_figures, figures_of, without_figures, moved, reply_of}
use Rattle.call_theory.specs.declared.Call.TheVariants.{Collapse, Preview}
use Rattle.journal.specs.Records.{state_of, sound_whole}
use Rattle.journal.specs.Answers.{as_call_answer, applied}
use Rattle.journal.proofs.AnswerLaws.{whole_few, applied_sound, applied_broken}
use Rattle.journal.specs.declared.CallAnswer.{CallAnswer}
use Rattle.journal.specs.declared.Record.{Record}
use Rattle.journal_calls.specs.Answers.{report_on, preview_on}
use Rattle.journal_calls.specs.AnswerLaws.{tested_few}
use Rattle.fold_merge.specs.Answers.{on_record}
use Rattle.fold_preview.specs.Preview.{previewed}
use Rattle.call_preview.specs.PreviewLaws.{call_shown}
use Rattle.guarantees.specs.Previews.{PreviewClaim}
use Rattle.guarantees.proofs.AnswerLaws.{by_test, answer_whole, answer_broken}
use Rattle.guarantees.proofs.RecordLaws.{record_claim}

-- a refusal has no figures
abbrev none : ℕ → SizeReport
none c = record { code = c; gates = 0; cost = 0; levels = 0 }

module _ (r : Record) (shape : ArrayLengths r.network) (s : ℕ) where
  abbrev N : Net
  N = net_of r.network

  abbrev after : Record
  after = (applied r (Collapse s)).after

  module _ (w : sound_whole r ≡ true) where
    shown : (a : Answer Net) → collapse N s ≡ a → preview_on r s ≡ report_of a
    unfolding preview_on
    shown a e = ap report_of (answer_whole r (λ N. collapse N s) w ∙ e)

    collapsed : (a : Answer Net) → collapse N s ≡ a
        → applied r (Collapse s) ≡ as_call_answer r (Collapse s) (bind a (λ M. accepted (without_figures (moved (state_of r) (Collapse s) M))))
    unfolding reply_of state_of
    collapsed a e = applied_sound r (Collapse s) w
        ∙ ap (λ (a : Answer Net). as_call_answer r (Collapse s) (bind a (λ M. accepted (without_figures (moved (state_of r) (Collapse s) M))))) e

    -- the report of what the collapse leaves
    left : (M : Net) → collapse N s ≡ accepted M → report_on after ≡ report_of (accepted M)
    unfolding report_on bind without_figures moved as_call_answer
    left M e =
        let net : after.network ≡ layout M = ap (λ (o : CallAnswer). o.after.network) (collapsed (accepted M) e) in
        ap report_of (answer_whole after accepted ((record_claim r (Collapse s)).stays_sound w))
        ∙ (λ x. report_of (accepted (net_of (net x))))
        ∙ ap (λ (L : Net). report_of (accepted L)) (net_of_layout M (collapse_kept N s M e).all_kept.sound)

    in_a_list : applied r (Preview s) ≡ record { code = (preview_on r s).code; after = r; figures = figures_of (preview_on r s) }
    unfolding preview_on previewed figures_of
    in_a_list =
        let same : previewed r.network s ≡ preview_on r s = sym (ap report_of (tested_few r (on_record r.network (λ N. collapse N s)) (whole_few r w))) in
        sym (call_shown r shape w s) ∙ ap (λ (p : SizeReport). record { code = p.code; after = r; figures = figures_of p }) same

    whole : (a : Answer Net) → collapse N s ≡ a → Numbered a → PreviewClaim r s
    unfolding bind without_figures moved as_call_answer report_of
    whole (accepted M) e n = record {
      equals = λ h. shown (accepted M) e ∙ sym (left M e);
      refuses = λ h. absurd (h (ap (λ (o : CallAnswer). o.code) (collapsed (accepted M) e)));
      in_a_list = in_a_list;
    }
    whole (refused c) e n =
        let code = ap (λ (o : CallAnswer). o.code) (collapsed (refused c) e) in
        record {
          equals = λ h. absurd (n (sym code ∙ h));
          refuses = λ h. shown (refused c) e ∙ ap none (sym code);
          in_a_list = in_a_list;
        }

  broken : sound_whole r ≡ false → PreviewClaim r s
  unfolding preview_on report_of figures_of no_figures
  broken w =
      let p : preview_on r s ≡ none 20 = ap report_of (answer_broken r (λ N. collapse N s) w) in
      let code = ap (λ (o : CallAnswer). o.code) (applied_broken r (Collapse s) w) in
      record {
        equals = λ h. absurd (omega (arith, sym code ∙ h));
        refuses = λ h. p ∙ ap none (sym code);
        in_a_list = applied_broken r (Preview s) w ∙ sym (ap (λ (q : SizeReport). record { code = q.code; after = r; figures = figures_of q }) p);
      }

  pub preview_claim : PreviewClaim r s
  preview_claim = by_test (sound_whole r) (λ w. whole w (collapse N s) refl (collapse_numbered N s)) broken
