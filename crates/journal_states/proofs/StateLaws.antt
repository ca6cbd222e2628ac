-- On the record of a state that a read and calls lead to, a call of a list gives the answer of the definitions, and leaves the record of the
-- state that they leave: every array, spare places too. Assumes nothing.
use Rattle.std.specs.Prelude.{◌≡◌, true, List, [], ◌∷◌}
use Rattle.std.proofs.Math.Path.{refl}
use Rattle.std.proofs.Common.{sym, ap, ◌∙◌}
use Rattle.basics.specs.Refusals.{Answer, accepted, refused}
use Rattle.basics.specs.RefusalLaws.{accepted≢refused, accepted_inj}
use Rattle.network.specs.Threshold.{Net}
use Rattle.network.specs.Record.{layout}
use Rattle.network.specs.RecordLaws.{net_of_layout, holds_layout, holds_sound}
use Rattle.call_theory.specs.Steps.{Step, State}
use Rattle.call_theory.specs.Calls.{Given, without_figures, steps_of, moved, reply_of, answer, leaves}
use Rattle.call_theory.proofs.RunLaws.{NotUndo, reply_ran}
use Rattle.call_theory.proofs.TraceLaws.{answer_reply, Traced, traced_standing, traced_none, traced_some}
use Rattle.call_theory.specs.declared.Call.{Call}
use Rattle.call_theory.specs.declared.Call.TheVariants.{Merge, Drop, Collapse, Sweep, Preview, Undo}
use Rattle.journal.specs.Journals.{journal_of, enter_all, without_newest}
use Rattle.journal.proofs.JournalLaws.{enter_all_journal, without_journal, steps_journal}
use Rattle.journal.specs.Records.{state_of, sound_whole, record_of}
use Rattle.journal.specs.Answers.{journal_after, as_call_answer, applied}
use Rattle.journal.proofs.AnswerLaws.{whole_of, applied_sound}
use Rattle.journal.specs.declared.CallAnswer.{CallAnswer}
use Rattle.journal.specs.declared.Journal.{Journal}
use Rattle.journal_states.specs.Answers.{answer_on}

-- ---- the record of a state

module _ (R : Net) (q : State) (t : Traced R q) where
  pub state_record : state_of (record_of q) ≡ q
  unfolding state_of record_of
  state_record = λ i. record { net = net_of_layout q.net t.kept.sound i; steps = steps_journal q.steps t.short t.narrow i }

  pub record_sound : sound_whole (record_of q) ≡ true
  unfolding record_of journal_of
  record_sound = whole_of (record_of q) (holds_sound (layout q.net) (holds_layout q.net t.kept.sound)) t.short

-- ---- the journal that a call leaves

-- every call but an undo enters its steps
journal_entered : (j : Journal) (N : Net) (c : Call) → NotUndo c → journal_after j N c ≡ enter_all j (steps_of N c)
unfolding journal_after
journal_entered j N (Merge u v k l) n = refl
journal_entered j N (Drop s) n = refl
journal_entered j N (Collapse s) n = refl
journal_entered j N (Sweep b) n = refl
journal_entered j N (Preview s) n = refl
journal_entered j N Undo n = absurd n

fold_journal : (R : Net) (q : State) (c : Call) (g : Given) → Traced R q → NotUndo c → reply_of q c ≡ accepted g
    → journal_after (journal_of q.steps) q.net c ≡ journal_of g.state.steps
unfolding moved
fold_journal R q c g t n e =
    journal_entered (journal_of q.steps) q.net c n
    ∙ enter_all_journal q.steps (steps_of q.net c) t.short
    ∙ sym (ap (λ (p : State). journal_of p.steps) (reply_ran q c g n e).left)

undo_journal : (R N : Net) (ss : List Step) (g : Given) → Traced R (record { net = N; steps = ss })
    → answer (record { net = N; steps = ss }) Undo ≡ accepted g → without_newest (journal_of ss) ≡ journal_of g.state.steps
unfolding without_figures
undo_journal R N [] g t e = accepted≢refused (sym e ∙ traced_none R N t)
undo_journal R N (s ∷ ss) g t e =
    without_journal s ss t.short ∙ ap (λ (x : Given). journal_of x.state.steps) (accepted_inj (sym (traced_some R N s ss t) ∙ e))

journal_left : (R : Net) (q : State) (c : Call) (g : Given) → Traced R q → answer q c ≡ accepted g
    → journal_after (journal_of q.steps) q.net c ≡ journal_of g.state.steps
journal_left R q (Merge u v k l) g t e = fold_journal R q (Merge u v k l) g t tt (sym (answer_reply q (Merge u v k l) (traced_standing R q t)) ∙ e)
journal_left R q (Drop s) g t e = fold_journal R q (Drop s) g t tt (sym (answer_reply q (Drop s) (traced_standing R q t)) ∙ e)
journal_left R q (Collapse s) g t e = fold_journal R q (Collapse s) g t tt (sym (answer_reply q (Collapse s) (traced_standing R q t)) ∙ e)
journal_left R q (Sweep b) g t e = fold_journal R q (Sweep b) g t tt (sym (answer_reply q (Sweep b) (traced_standing R q t)) ∙ e)
journal_left R q (Preview s) g t e = fold_journal R q (Preview s) g t tt (sym (answer_reply q (Preview s) (traced_standing R q t)) ∙ e)
journal_left R q Undo g t e = unfold journal_after in undo_journal R q.net q.steps g t e

-- ---- the call

module _ (R : Net) (q : State) (t : Traced R q) (c : Call) where
  answer_on_lem : (a : Answer Given) → answer q c ≡ a → as_call_answer (record_of q) c a ≡ answer_on q a
  unfolding as_call_answer answer_on record_of
  answer_on_lem (accepted g) e = λ x. record {
    code = 0;
    after = record {
      network = layout g.state.net;
      journal = (ap (λ (N : Net). journal_after (journal_of q.steps) N c) (net_of_layout q.net t.kept.sound) ∙ journal_left R q c g t e) x;
    };
    figures = g.figures;
  }
  answer_on_lem (refused k) e = refl

  -- the code, the record and the three numbers are those of the definitions
  pub applied_record : applied (record_of q) c ≡ answer_on q (answer q c)
  applied_record =
      applied_sound (record_of q) c (record_sound R q t)
      ∙ ap (λ (p : State). as_call_answer (record_of q) c (reply_of p c)) (state_record R q t)
      ∙ sym (ap (as_call_answer (record_of q) c) (answer_reply q c (traced_standing R q t)))
      ∙ answer_on_lem (answer q c) refl

  after_on : (a : Answer Given) → (answer_on q a).after ≡ record_of (leaves q a)
  unfolding answer_on leaves
  after_on (accepted g) = refl
  after_on (refused k) = refl

  pub record_left : (applied (record_of q) c).after ≡ record_of (leaves q (answer q c))
  record_left = ap (λ (o : CallAnswer). o.after) applied_record ∙ after_on (answer q c)
