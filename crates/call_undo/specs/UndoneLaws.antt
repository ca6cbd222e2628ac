-- Undo on a sound record, refusal by refusal in their order, and the step taken back. Assumes nothing.
use Rattle.std.specs.Prelude.{◌≡◌, true, false}
use Rattle.std.proofs.Math.Path.{ap}
use Rattle.std.proofs.Common.{◌∙◌}
use mathlib.Core.List.{List, [], ◌∷◌, map}
use Prim.Native.Nat.{ℕ, suc, ◌-◌, ◌<◌}
use native.Mathlib.Omega.{arith}
use Rattle.basics.specs.Lists.{range, tab}
use Rattle.basics.specs.Refusals.{Answer, accepted, bind}
use Rattle.basics.specs.RefusalLaws.{checks_first, checks_next, checks_none}
use Rattle.network.specs.Threshold.{Net}
use Rattle.network.specs.Record.{net_of, layout}
use Rattle.call_theory.specs.Steps.{Step, State, undo_of, sound_state, undoable, latest, undo}
use Rattle.call_theory.specs.Calls.{Given, no_figures, without_figures, reply_of}
use Rattle.call_theory.specs.declared.Call.TheVariants.{Undo}
use Rattle.journal.specs.Journals.{step_at, steps_in, without_newest}
use Rattle.journal.specs.Records.{state_of, sound_whole}
use Rattle.journal.specs.Answers.{as_call_answer, journal_after, applied}
use Rattle.journal.proofs.AnswerLaws.{whole_state, applied_sound, applied_refused}
use Rattle.journal.specs.declared.Record.{Record}

module _ (r : Record) (whole : sound_whole r ≡ true) where
  abbrev net : Net
  net = net_of r.network

  -- what the latest of a list of steps answers, as a call
  abbrev given : List Step → Answer Given
  given ss = bind (latest net ss) (λ q. accepted (without_figures q))

  reply_is : reply_of (state_of r) Undo ≡ given (steps_in r.journal)
  unfolding reply_of undo state_of
  reply_is = ap (λ (a : Answer State). bind a (λ q. accepted (without_figures q)))
      (checks_next (sound_state (state_of r)) 20 [] _ (whole_state r whole) ∙ checks_none _)

  -- ---- 22
  pub undone_empty : r.journal.count ≡ 0 → applied r Undo ≡ record { code = 22; after = r; figures = no_figures }
  unfolding latest steps_in bind range
  undone_empty e = applied_refused r Undo 22 whole (reply_is ∙ ap (λ (n : ℕ). given (tab n (step_at r.journal))) e)

  module _ (some : 0 < r.journal.count) where
    abbrev step : Step
    step = step_at r.journal 0

    abbrev rest : List Step
    rest = map (step_at r.journal) (range 1 (r.journal.count - 1))

    reply_latest : reply_of (state_of r) Undo ≡ given (step ∷ rest)
    unfolding steps_in range
    reply_latest = reply_is ∙ ap (λ (n : ℕ). given (tab n (step_at r.journal)))
        (let e : r.journal.count ≡ suc (r.journal.count - 1) = omega arith in e)

    -- ---- 23
    pub undone_stuck : undoable net step ≡ false → applied r Undo ≡ record { code = 23; after = r; figures = no_figures }
    unfolding latest bind
    undone_stuck e = applied_refused r Undo 23 whole
        (reply_latest ∙ ap (λ (a : Answer State). bind a (λ q. accepted (without_figures q))) (checks_first (undoable net step) 23 [] _ e))

    -- ---- the step taken back
    pub undone_back : undoable net step ≡ true → applied r Undo ≡ record {
      code = 0;
      after = record { network = layout (undo_of net step); journal = without_newest r.journal };
      figures = no_figures;
    }
    unfolding latest bind as_call_answer journal_after without_figures
    undone_back e = applied_sound r Undo whole ∙ ap (as_call_answer r Undo)
        (reply_latest ∙ ap (λ (a : Answer State). bind a (λ q. accepted (without_figures q))) (checks_next (undoable net step) 23 [] _ e ∙ checks_none _))
