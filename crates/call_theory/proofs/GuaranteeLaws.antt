-- Every list of calls, undo among them, keeps the outputs of the network read on every frame; merges are accepted exactly where they agree, sweeps
-- leave nothing to collapse, previews show what a collapse would leave; undo restores networks exactly, never gives 23, and leads back to the
-- network read where no step was lost. Assumes nothing.
use Rattle.std.specs.Prelude.{◌≡◌, refl, List, [], ◌∷◌, ℕ, ◌+◌, ◌≤◌, T, length}
use Rattle.std.proofs.Math.Path.{sym, ap, subst}
use Rattle.std.proofs.Common.{◌∙◌, arith}
use Rattle.basics.specs.Refusals.{Answer, accepted, refused, bind, Passed}
use Rattle.basics.specs.RefusalLaws.{Refused, accepted≢refused, accepted_inj, bind_accepted}
use Rattle.network.specs.Threshold.{Net, Assignment, frame, output_bits}
use Rattle.network.specs.Limits.{sound}
use Rattle.network.specs.Sound.{Sound}
use Rattle.network.specs.LimitLaws.{sound_of}
use Rattle.network_equivalence.proofs.ConsistentLaws.{sound_good, sim_outputs, outputs_many}
use Rattle.fold_theory.specs.Merge.{limits, merge}
use Rattle.fold_theory.specs.Collapse.{collapse}
use Rattle.fold_theory.specs.Sweep.{sweep}
use Rattle.fold_theory.specs.Guarantee.{SweepDone}
use Rattle.fold_theory.proofs.CollapseLaws.{collapse_tried, collapse_only}
use Rattle.fold_theory.proofs.StepLaws.{merge_exact, merge_same, merge_net}
use Rattle.fold_theory.proofs.SweepLaws.{kept_refl, sweep_done}
use Rattle.call_theory.specs.Steps.{Step, undo_of, State, just_opened}
use Rattle.call_theory.specs.Calls.{Given, without_figures, with_collapses, shown, steps_of, moved, reply_of}
use Rattle.call_theory.specs.Calls.{answer, leaves, calls, steps_if, steps_accepted, undos}
use Rattle.call_theory.specs.Preserved.{undoing, Claims, Preserved}
use Rattle.call_theory.specs.Guarantee.{MergeExact, CollapseExact, PreviewExact, StepsEntered, UndoExact, Claim}
use Rattle.call_theory.proofs.RunLaws.{NotUndo, CallRan, reply_ran}
use Rattle.call_theory.proofs.TraceLaws.{StateFacts, standing_sound, answer_reply, run_undos, unwound, run_unwound, undoing_ends}
use Rattle.call_theory.proofs.TraceLaws.{Traced, traced_standing, run_traced, traced_none, traced_some, undo_traced}
use Rattle.call_theory.specs.declared.Call.{Call}
use Rattle.call_theory.specs.declared.Call.TheVariants.{Merge, Drop, Collapse, Sweep, Preview, Undo}

-- ---- what one call makes of a state

pub opened_traced : (R : Net) → Sound R → Traced R (just_opened R)
unfolding just_opened
opened_traced R s = record { kept = kept_refl R s; backed = tt; short = omega arith; narrow = tt }

-- what a call with n steps leaves is on the way from R; and if they fit into the journal, the undos lead to the same network as before
record NextState (R : Net) (q : State) (n : ℕ) (p : State) : Type 0 where
  traced : Traced R p
  unwinds : n + length q.steps ≤ 64 → (unwound p.net p.steps ≡ unwound q.net q.steps) × (length p.steps ≤ n + length q.steps)

same_next : (R : Net) (q : State) → Traced R q → NextState R q 0 q
same_next R q t = record { traced = t; unwinds = λ h. (refl, omega arith) }

ran_next : (R : Net) (q : State) (c : Call) (g : Given) → Traced R q → CallRan q c g → NextState R q (length (steps_of q.net c)) g.state
unfolding moved
ran_next R q c g t r =
    let new = steps_of q.net c in
    let M = g.state.net in
    subst (NextState R q (length new)) (sym r.left) (record {
      traced = run_traced R q.net M new q.steps r.run t;
      unwinds = λ h. let w = run_unwound q.net M new q.steps r.run h in (w.0, omega (arith, w.1));
    })

fold_next : (R : Net) (q : State) (c : Call) → NotUndo c → Traced R q → (r : Answer Given) → reply_of q c ≡ r
    → NextState R q (steps_if r (length (steps_of q.net c))) (leaves q r)
unfolding leaves steps_if
fold_next R q c n t (accepted g) e = ran_next R q c g t (reply_ran q c g n e)
fold_next R q c n t (refused d) e = same_next R q t

collapsed_next : (R : Net) (q : State) (c : Call) → NotUndo c → Traced R q
    → NextState R q (steps_if (answer q c) (length (steps_of q.net c))) (leaves q (answer q c))
collapsed_next R q c n t = subst (λ (r : Answer Given). NextState R q (steps_if r (length (steps_of q.net c))) (leaves q r))
    (sym (answer_reply q c (traced_standing R q t))) (fold_next R q c n t (reply_of q c) refl)

undo_next : (R N : Net) (ss : List Step) → Traced R (record { net = N; steps = ss })
    → NextState R (record { net = N; steps = ss }) (steps_if (answer (record { net = N; steps = ss }) Undo) (length (steps_of N Undo)))
    (leaves (record { net = N; steps = ss }) (answer (record { net = N; steps = ss }) Undo))
unfolding leaves without_figures steps_if steps_of unwound
undo_next R N [] t =
    let q : State = record { net = N; steps = [] } in
    subst (λ (r : Answer Given). NextState R q (steps_if r 0) (leaves q r)) (sym (traced_none R N t)) (same_next R q t)
undo_next R N (s ∷ ss) t =
    let q : State = record { net = N; steps = s ∷ ss } in
    subst (λ (r : Answer Given). NextState R q (steps_if r 0) (leaves q r)) (sym (traced_some R N s ss t))
    (record { traced = undo_traced R N s ss t; unwinds = λ h. (refl, omega arith) })

call_next : (R : Net) (q : State) (c : Call) → Traced R q → NextState R q (steps_if (answer q c) (length (steps_of q.net c))) (leaves q (answer q c))
call_next R q (Merge u v k l) t = collapsed_next R q (Merge u v k l) tt t
call_next R q (Drop u) t = collapsed_next R q (Drop u) tt t
call_next R q (Collapse u) t = collapsed_next R q (Collapse u) tt t
call_next R q (Sweep B) t = collapsed_next R q (Sweep B) tt t
call_next R q (Preview u) t = collapsed_next R q (Preview u) tt t
call_next R q Undo t = undo_next R q.net q.steps t

pub call_traced : (R : Net) (q : State) (c : Call) → Traced R q → Traced R (leaves q (answer q c))
call_traced R q c t = (call_next R q c t).traced

-- ---- a list of calls

pub calls_traced : (R : Net) (q : State) (cs : List Call) → Traced R q → Traced R (calls q cs)
unfolding calls
calls_traced R q [] t = t
calls_traced R q (c ∷ cs) t = calls_traced R (leaves q (answer q c)) cs (call_traced R q c t)

calls_unwound : (R : Net) (q : State) (cs : List Call) → Traced R q → steps_accepted q cs + length q.steps ≤ 64
    → unwound (calls q cs).net (calls q cs).steps ≡ unwound q.net q.steps
unfolding calls steps_accepted
calls_unwound R q [] t h = refl
calls_unwound R q (c ∷ cs) t h =
    let n = call_next R q c t in
    let w = n.unwinds (omega arith) in
    calls_unwound R (leaves q (answer q c)) cs n.traced (omega (arith, w.1)) ∙ w.0

-- "repeating undo until it is refused with 22 gives the network read"
taken_back : (R : Net) (cs : List Call) → Sound R → steps_accepted (just_opened R) cs ≤ 64
    → undoing 65 (calls (just_opened R) cs) ≡ record { state = just_opened R; code = 22 }
unfolding just_opened unwound
taken_back R cs s h =
    let t = opened_traced R s in
    let q = calls (just_opened R) cs in
    let k = calls_traced R (just_opened R) cs t in
    undoing_ends R 65 q.net q.steps k (omega (arith, k.short))
    ∙ ap (λ (x : Net). record { state = just_opened x; code = 22 }) (calls_unwound R (just_opened R) cs t (omega arith))

-- ---- what is claimed of each call

module _ (q : State) (s : StateFacts q) where
  journaled : (c : Call) → NotUndo c → StepsEntered q c
  unfolding moved
  journaled c n =
      let ran : (g : Given) → answer q c ≡ accepted g → CallRan q c g = λ g e. reply_ran q c g n (sym (answer_reply q c s) ∙ e) in
      record {
        single_steps = λ g e. (ran g e).run;
        restored = λ g e h. ap (undos (length (steps_of q.net c))) (ran g e).left
            ∙ run_undos q.net g.state.net (steps_of q.net c) q.steps s.net_sound (ran g e).run s.short h;
      }

  merge_claim : (u v k l : ℕ) → Passed (limits q.net u v k l) → MergeExact q u v k l
  unfolding reply_of bind
  merge_claim u v k l p =
      let e = answer_reply q (Merge u v k l) s in
      let on : Answer Net → Answer Given = λ r. bind r (λ M. accepted (without_figures (moved q (Merge u v k l) M))) in
      record {
        same = merge_same q.net u v k l p;
        accepts = λ h m. e ∙ ap on ((merge_exact q.net u v k l p).1 (h, m));
        only = λ g h. let b = bind_accepted (merge q.net u v k l) _ (sym e ∙ h) in
            (merge_exact q.net u v k l p).0 (merge_net q.net u v k l b.0 b.1);
      }

  accepted_one : (c : Call) (r : Answer Net) → (Refused r → ⊥)
      → (M : Net) × (bind r (λ M. accepted (without_figures (moved q c M))) ≡ accepted (without_figures (moved q c M)))
  unfolding bind
  accepted_one c (accepted M) h = (M, refl)
  accepted_one c (refused d) h = absurd (h tt)

  collapse_claim : (u : ℕ) → CollapseExact q u
  unfolding reply_of
  collapse_claim u =
      let e = answer_reply q (Collapse u) s in
      record {
        accepts = λ h. let b = accepted_one (Collapse u) (collapse q.net u) (collapse_tried q.net u s.net_sound h) in (b.0, e ∙ b.1);
        only = λ g h. let b = bind_accepted (collapse q.net u) _ (sym e ∙ h) in collapse_only q.net u b.0 b.1;
      }

  sweep_claim : (B : ℕ) (g : Given) → answer q (Sweep B) ≡ accepted g → SweepDone q.net B g.state.net g.figures.first
  unfolding reply_of with_collapses moved
  sweep_claim B g e =
      let b = bind_accepted (sweep q.net B) _ (sym (answer_reply q (Sweep B) s) ∙ e) in
      subst (λ (x : Given). SweepDone q.net B x.state.net x.figures.first) (accepted_inj b.2) (sweep_done q.net B b.0 b.1)

  -- a preview, by what a collapse answers
  foreseen : (u : ℕ) (r : Answer Net) → collapse q.net u ≡ r → PreviewExact q u
  unfolding reply_of bind without_figures moved shown leaves
  foreseen u (accepted M) e =
      let left : answer q (Collapse u) ≡ accepted (without_figures (moved q (Collapse u) M)) =
      answer_reply q (Collapse u) s ∙ ap (λ (x : Answer Net). bind x (λ M. accepted (without_figures (moved q (Collapse u) M)))) e in
      let here : answer q (Preview u) ≡ accepted (shown q M) =
      answer_reply q (Preview u) s ∙ ap (λ (x : Answer Net). bind x (λ M. accepted (shown q M))) e in
      record {
        same = ap (leaves q) here;
        shows = λ g h. here ∙ ap (λ (x : Given). accepted (shown q x.state.net)) (accepted_inj (sym left ∙ h));
        refuses = λ c h. accepted≢refused (sym left ∙ h);
      }
  foreseen u (refused d) e =
      let left : answer q (Collapse u) ≡ refused d =
      answer_reply q (Collapse u) s ∙ ap (λ (x : Answer Net). bind x (λ M. accepted (without_figures (moved q (Collapse u) M)))) e in
      let here : answer q (Preview u) ≡ refused d =
      answer_reply q (Preview u) s ∙ ap (λ (x : Answer Net). bind x (λ M. accepted (shown q M))) e in
      record {
        same = ap (leaves q) here;
        shows = λ g h. accepted≢refused (sym h ∙ left);
        refuses = λ c h. here ∙ sym left ∙ h;
      }

undo_claim : (R : Net) (q : State) → Traced R q → UndoExact q
undo_claim R q t =
    let at : List Step → State = λ ss. record { net = q.net; steps = ss } in
    record {
      none = λ e. subst (λ (ss : List Step). Traced R (at ss) → answer (at ss) Undo ≡ refused 22) (sym e) (traced_none R q.net) t;
      some = λ s ss e.
          let left : State = record { net = undo_of q.net s; steps = ss } in
          subst (λ (x : List Step). Traced R (at x) → answer (at x) Undo ≡ accepted (without_figures left))
          (sym e) (traced_some R q.net s ss) t;
    }

pub claim : (R : Net) (q : State) (c : Call) → Traced R q → Claim q c
claim R q (Merge u v k l) t = let s = traced_standing R q t in (merge_claim q s u v k l, journaled q s (Merge u v k l) tt)
claim R q (Drop u) t = journaled q (traced_standing R q t) (Drop u) tt
claim R q (Collapse u) t = let s = traced_standing R q t in (collapse_claim q s u, journaled q s (Collapse u) tt)
claim R q (Sweep B) t = let s = traced_standing R q t in (sweep_claim q s B, journaled q s (Sweep B) tt)
claim R q (Preview u) t = foreseen q (traced_standing R q t) u (collapse q.net u) refl
claim R q Undo t = undo_claim R q t

claims : (R : Net) (q : State) (cs : List Call) → Traced R q → Claims q cs
claims R q [] t = tt
claims R q (c ∷ cs) t = (claim R q c t, claims R (leaves q (answer q c)) cs (call_traced R q c t))

-- ---- every list of calls

pub traced_agree : (R : Net) (q : State) → Sound R → Traced R q → (ρ : Assignment) → output_bits q.net ρ ≡ output_bits R ρ
traced_agree R q s t ρ = sim_outputs R q.net (sound_good R s) (sound_good q.net t.kept.sound) t.kept.sim ρ

pub list_kept : (R : Net) → T (sound R) → (cs : List Call) → Preserved R cs
list_kept R h cs =
    let s = sound_of R h in
    let o = opened_traced R s in
    let q = calls (just_opened R) cs in
    let t = calls_traced R (just_opened R) cs o in
    record {
      sound_after = standing_sound q (traced_standing R q t);
      same_board = t.kept.board;
      same_inputs = sym t.kept.sim.same_inputs;
      same_outputs = outputs_many R q.net (frame 0) (traced_agree R q s t (frame 0));
      agree = λ n k. traced_agree R q s t (frame n);
      taken_back = taken_back R cs s;
      each_call = claims R (just_opened R) cs o;
    }
