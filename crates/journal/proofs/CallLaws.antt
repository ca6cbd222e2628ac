-- A call on a sound record that changes the network as a function does, and enters its steps. Assumes nothing.
use Rattle.std.specs.Prelude.{◌≡◌, true, ℕ}
use Rattle.std.proofs.Math.Path.{sym, ap}
use Rattle.std.proofs.Common.{◌∙◌}
use Rattle.basics.specs.Refusals.{Answer, accepted, refused, bind}
use Rattle.network.specs.Threshold.{Net}
use Rattle.network.specs.Record.{net_of, layout}
use Rattle.call_theory.specs.Calls.{no_figures, without_figures, moved, reply_of}
use Rattle.call_theory.specs.declared.Call.{Call}
use Rattle.journal.specs.Records.{state_of, sound_whole}
use Rattle.journal.specs.Answers.{journal_after, as_call_answer, applied}
use Rattle.journal.proofs.AnswerLaws.{applied_sound, applied_refused}
use Rattle.journal.specs.Parts.{refusing, answered}
use Rattle.journal.specs.declared.Record.{Record}

module _ (r : Record) (c : Call) (f : Net → Answer Net) where
  -- the call is f, and what it leaves is put into the record
  abbrev pub IsCall : Type 0
  IsCall = reply_of (state_of r) c ≡ bind (f (net_of r.network)) (λ M. accepted (without_figures (moved (state_of r) c M)))

  module _ (whole : sound_whole r ≡ true) (is_call : IsCall) where
    pub call_refused : (k : ℕ) → f (net_of r.network) ≡ refused k → refusing k r ≡ applied r c
    unfolding bind no_figures
    call_refused k q =
        sym (applied_refused r c k whole (is_call ∙ ap (λ (a : Answer Net). bind a (λ M. accepted (without_figures (moved (state_of r) c M)))) q))

    pub call_accepted : (M : Net) → f (net_of r.network) ≡ accepted M
        → answered (layout M) (journal_after r.journal (net_of r.network) c) 0 ≡ applied r c
    unfolding bind without_figures no_figures as_call_answer moved
    call_accepted M q = sym (applied_sound r c whole
        ∙ ap (as_call_answer r c) (is_call ∙ ap (λ (a : Answer Net). bind a (λ M. accepted (without_figures (moved (state_of r) c M)))) q))
