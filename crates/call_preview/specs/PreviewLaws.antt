-- A preview as a call of a list is the preview by itself, with its three numbers, at the record as it was. Assumes nothing.
use Rattle.std.specs.Prelude.{◌≡◌, Result, Ok, Err, true, ℕ}
use Rattle.std.proofs.Math.Path.{refl, sym, ap}
use Rattle.std.proofs.Common.{◌∙◌}
use mathlib.Core.List.{[]}
use Rattle.basics.specs.TestLaws.{T_is}
use Rattle.basics.specs.Refusals.{Answer, accepted, refused, bind}
use Rattle.basics.specs.RefusalLaws.{checks_next, checks_none}
use Rattle.network.specs.Threshold.{Net}
use Rattle.network.specs.Record.{net_of, sound_record}
use Rattle.network.specs.RecordLaws.{ArrayLengths, layout_net_of}
use Rattle.network_report.specs.Size.{report_of}
use Rattle.fold_theory.specs.Collapse.{collapse}
use Rattle.call_theory.specs.declared.Figures.{Figures}
use Rattle.call_theory.specs.Calls.{no_figures, figures_of, shown, steps_of, reply_of}
use Rattle.call_theory.specs.declared.Call.TheVariants.{Preview}
use Rattle.journal.specs.Journals.{enter_all}
use Rattle.journal.specs.Records.{state_of, sound_whole}
use Rattle.journal.specs.Answers.{journal_after, as_call_answer, applied}
use Rattle.journal.proofs.AnswerLaws.{whole_network, applied_sound}
use Rattle.journal.specs.Parts.{left_by}
use Rattle.journal.specs.declared.Record.{Record}
use Rattle.refusals.specs.declared.Refusal.{Refusal}
use Rattle.fold_merge.specs.Answers.{on_record}
use Rattle.fold_preview.specs.Preview.{previewed}
use Rattle.call_preview.specs.Answers.{with_size, size_given}

module _ (r : Record) (shape : ArrayLengths r.network) (whole : sound_whole r ≡ true) (s : ℕ) where
  answer_shown : (a : Answer Net) → with_size r (report_of a) ≡ as_call_answer r (Preview s) (bind a (λ M. accepted (shown (state_of r) M)))
  unfolding as_call_answer journal_after steps_of enter_all bind shown state_of report_of no_figures figures_of
  answer_shown (accepted M) = λ x. record {
    code = 0;
    after = record { network = sym (layout_net_of r.network shape (T_is (sound_record r.network) (whole_network r whole))) x; journal = r.journal };
    figures = figures_of (report_of (accepted M));
  }
  answer_shown (refused k) = refl

  pub call_shown : with_size r (previewed r.network s) ≡ applied r (Preview s)
  unfolding previewed on_record reply_of state_of
  call_shown =
      ap (λ (a : Answer Net). with_size r (report_of a))
      (checks_next (sound_record r.network) 20 [] _ (whole_network r whole) ∙ checks_none (collapse (net_of r.network) s))
      ∙ answer_shown (collapse (net_of r.network) s) ∙ sym (applied_sound r (Preview s) whole)

  -- three numbers or a refusal that make up the preview's report, and the record as it was, are the call's answer
  pub given_shown : (m : Result Figures Refusal) → size_given m ≡ previewed r.network s → left_by m r ≡ applied r (Preview s)
  given_shown m e = given m ∙ ap (with_size r) e ∙ call_shown
    where
      given : (m : Result Figures Refusal) → left_by m r ≡ with_size r (size_given m)
      given (Ok f) = refl
      given (Err e) = refl
