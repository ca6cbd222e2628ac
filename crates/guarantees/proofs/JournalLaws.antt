-- The journal after a call is the newest 64 of its steps and those before. Assumes nothing.
use Rattle.std.specs.Prelude.{◌≡◌, refl, List, [], ◌∷◌, ℕ, ◌≤◌, length, take}
use Rattle.std.proofs.Math.Path.{sym}
use Rattle.std.proofs.Common.{ap, ◌∙◌, arith, take_all, take-take}
use Rattle.basics.specs.Refusals.{Answer, accepted, ◌else◌, checks, bind}
use Rattle.basics.specs.RefusalLaws.{accepted_inj, checks_accepted, bind_accepted}
use Rattle.network.specs.Threshold.{Net}
use Rattle.fold_theory.specs.Merge.{merge}
use Rattle.fold_theory.specs.Collapse.{drop_gate, collapse}
use Rattle.fold_theory.specs.Sweep.{Swept, sweep}
use Rattle.call_theory.specs.Steps.{Step, entered, entered_all, State, sound_state}
use Rattle.call_theory.specs.Calls.{Given, without_figures, with_collapses, shown, steps_of, moved, reply_of, answer}
use Rattle.call_theory.specs.declared.Call.{Call}
use Rattle.call_theory.specs.declared.Call.TheVariants.{Merge, Drop, Collapse, Sweep, Preview, Undo}
use Rattle.guarantees.specs.Records.{newest_first, Enters, JournalClaim}

entered_all_lem : (new ss : List Step) → entered_all new (take 64 ss) ≡ take 64 (newest_first new ss)
unfolding entered_all entered
entered_all_lem [] ss = refl
entered_all_lem (s ∷ new) ss =
    ap (λ (l : List Step). entered_all new (s ∷ l)) (take-take 63 64 ss (omega arith)) ∙ entered_all_lem new (s ∷ ss)

newest : (q : State) (new : List Step) → length q.steps ≤ 64 → entered_all new q.steps ≡ take 64 (newest_first new q.steps)
newest q new h = ap (entered_all new) (sym (take_all 64 q.steps h)) ∙ entered_all_lem new q.steps

-- a call's reply, by what it is bound to
module _ {A : Type 0} (a : Answer A) (f : A → Given) where
  replied : {g : Given} → bind a (λ x. accepted (f x)) ≡ accepted g → (x : A) × (f x ≡ g)
  replied e = let b = bind_accepted a _ e in (b.0, accepted_inj b.2)

journal_claim : (q : State) (c : Call) (g : Given) → Enters c → length q.steps ≤ 64 → reply_of q c ≡ accepted g
    → g.state.steps ≡ take 64 (newest_first (steps_of q.net c) q.steps)
unfolding reply_of without_figures with_collapses shown moved
journal_claim q (Merge u v k l) g n h e =
    let r = replied (merge q.net u v k l) (λ M. without_figures (moved q (Merge u v k l) M)) e in
    sym (ap (λ (x : Given). x.state.steps) r.1) ∙ newest q (steps_of q.net (Merge u v k l)) h
journal_claim q (Drop s) g n h e =
    let r = replied (drop_gate q.net s) (λ M. without_figures (moved q (Drop s) M)) e in
    sym (ap (λ (x : Given). x.state.steps) r.1) ∙ newest q (steps_of q.net (Drop s)) h
journal_claim q (Collapse s) g n h e =
    let r = replied (collapse q.net s) (λ M. without_figures (moved q (Collapse s) M)) e in
    sym (ap (λ (x : Given). x.state.steps) r.1) ∙ newest q (steps_of q.net (Collapse s)) h
journal_claim q (Sweep b) g n h e =
    let r = replied (sweep q.net b) (λ s. with_collapses (moved q (Sweep b) s.net) s.collapses) e in
    sym (ap (λ (x : Given). x.state.steps) r.1) ∙ newest q (steps_of q.net (Sweep b)) h
journal_claim q (Preview s) g n h e =
    let r = replied (collapse q.net s) (λ M. shown q M) e in
    sym (ap (λ (x : Given). x.state.steps) r.1) ∙ (unfold steps_of in sym (take_all 64 q.steps h))
journal_claim q Undo g n h e = absurd n

pub newest_64 : (q : State) (c : Call) → JournalClaim q c
unfolding answer
newest_64 q c n h g e = journal_claim q c g n h (checks_accepted ((sound_state q else 20) ∷ []) (reply_of q c) e).1
