-- An accepted call is a run of its single steps: a collapse is its merges, one after another, and then its drop; a sweep is its
-- collapses. Assumes nothing.
use Rattle.std.specs.Prelude.{◌≡◌, ℕ, zero, suc, ◌-◌, ◌≤◌, leb, length}
use Rattle.std.proofs.Math.Path.{refl, sym, ap, subst}
use Rattle.std.proofs.Common.{◌∙◌, arith, T_not}
use mathlib.Core.List.{List, [], ◌∷◌, ◌++◌, append_assoc}
use Rattle.std.proofs.Math.Dec.{T}
use Rattle.std.proofs.Math.ListN.{set, length-append}
use Rattle.std.proofs.lemmas.List.{set_at}
use Rattle.std.proofs.Math.Seq.{get_or_at, get_or-set_other}
use Rattle.basics.specs.Lists.{all, other}
use Rattle.basics.specs.TestLaws.{and_T, cond_case}
use Rattle.basics.specs.ListLaws.{of_each}
use Rattle.basics.specs.Refusals.{Answer, accepted, refused, Test, ◌else◌, checks, bind}
use Rattle.basics.specs.RefusalLaws.{accepted≢refused, accepted_inj, checks_accepted, passed_checks, bind_accepted}
use Rattle.network.specs.Threshold.{Gate, Net}
use Rattle.network.specs.Limits.{is_gate, sound}
use Rattle.network.specs.Record.{no_gate}
use Rattle.network.specs.Changes.{with_gates, gate_at, with_gate, without}
use Rattle.network.specs.Sound.{GateOk, Has, Sound}
use Rattle.network.specs.LimitLaws.{has_of, of_has, sound_of, of_sound, gate_ok_lem}
use Rattle.fold_theory.specs.Merge.{Edge, edge_of, edge, silent, reads, feed_tests, merge}
use Rattle.fold_theory.specs.Pair.{pair_of, pair}
use Rattle.fold_theory.specs.Collapse.{unread, drop_gate, merged_reader, merged_readers, collapse}
use Rattle.fold_theory.specs.Sweep.{readers, or_else, sweep_from, sweep_once, Swept, go_on, sweeping, sweep}
use Rattle.fold_theory.proofs.LowerLaws.{DoesNotRead, free_silent}
use Rattle.fold_theory.proofs.SoundLaws.{reader_above}
use Rattle.fold_theory.proofs.GuaranteeLaws.{pair_claim}
use Rattle.fold_theory.proofs.StepLaws.{merged_reader_silent, merged_readers_collapsed}
use Rattle.call_theory.specs.Steps.{Step, merging, dropping, entered_all, State, reader_steps, collapse_steps, turn_steps, sweep_steps}
use Rattle.call_theory.specs.Calls.{Given, without_figures, with_collapses, shown, steps_of, moved, reply_of}
use Rattle.call_theory.specs.Trail.{StepTaken, StepsTaken}
use Rattle.call_theory.proofs.UndoLaws.{merge_took, drop_took, step_kept}
use Rattle.call_theory.specs.declared.Call.{Call}
use Rattle.call_theory.specs.declared.Call.TheVariants.{Merge, Drop, Collapse, Sweep, Preview, Undo}

-- ---- runs

run_one : {N M : Net} {s : Step} → StepTaken N s M → StepsTaken N (s ∷ []) M
run_one {M} t = (M, t, refl)

run_append : (N L M : Net) (ss ts : List Step) → StepsTaken N ss L → StepsTaken L ts M → StepsTaken N (ss ++ ts) M
run_append N L M [] ts r q = subst (λ x. StepsTaken x ts M) (sym r) q
run_append N L M (s ∷ ss) ts r q = (r.0, r.1, run_append r.0 L M ss ts r.2 q)

-- ---- the merge of one reader
reader_took : (L : Net) (u v : ℕ) (h : Gate) → Sound L → Has L u → Has L v → T (reads u (gate_at L v)) → merged_reader (edge L u v) ≡ accepted h
    → StepTaken L (merging v (gate_at L v)) (with_gate L v h)
unfolding merged_reader reads edge pair feed_tests
reader_took L u v h s hu hv t q = cond_case (λ x. x ≡ accepted h → StepTaken L (merging v (gate_at L v)) (with_gate L v h)) (silent u (gate_at L v))
    (λ n q. absurd (T_not (silent u (gate_at L v)) t n))
    (λ n q.
    let b = bind_accepted (pair_of (edge L u v)) _ q in
    let p = b.0 in
    let found : pair L u v ≡ accepted p = passed_checks (feed_tests L u v) (pair_of (edge L u v))
    (of_sound L s, (and_T (is_gate L u) (is_gate L v) (of_has L u hu) (of_has L v hv), (t, tt))) ∙ b.1 in
    subst (λ (x : Gate). StepTaken L (merging v (gate_at L v)) (with_gate L v x)) (accepted_inj b.2)
    (merge_took L u v p.k p.l _ ((pair_claim L u v).merges p found))) q

-- ---- the readers of u, one after another

-- between two merges of a collapse: the gates so far are sound, and gate u is as it was
record BetweenMerges (N : Net) (u : ℕ) (gate_u : Gate) (gs : List Gate) : Type 0 where
  is_sound : Sound (with_gates N gs)
  is_gate_lem : Has (with_gates N gs) u
  own : gate_at (with_gates N gs) u ≡ gate_u

-- merges that lead from gates gs to gates hs
record MergesTaken (N : Net) (u : ℕ) (gate_u : Gate) (ss : List Step) (gs hs : List Gate) : Type 0 where
  run : StepsTaken (with_gates N gs) ss (with_gates N hs)
  ready : BetweenMerges N u gate_u hs

module _ (N : Net) (u : ℕ) (gate_u : Gate) where
  -- a gate and its place
  abbrev edge_to : ℕ → Gate → Edge
  edge_to n g = edge_of N.board u n gate_u g

  place_took : (n : ℕ) (pre : List Gate) (g : Gate) (gs : List Gate) (h : Gate)
      → length pre ≡ n - N.inputs → N.inputs ≤ n → BetweenMerges N u gate_u (pre ++ g ∷ gs)
      → T (reads u g) → merged_reader (edge_to n g) ≡ accepted h → MergesTaken N u gate_u (merging n g ∷ []) (pre ++ g ∷ gs) (pre ++ h ∷ gs)
  unfolding gate_at with_gate edge
  place_took n pre g gs h e low r t q =
      let L = with_gates N (pre ++ g ∷ gs) in
      let at : gate_at L n ≡ g = get_or_at pre g gs no_gate (n - N.inputs) e in
      let set : with_gate L n h ≡ with_gates N (pre ++ h ∷ gs) = ap (with_gates N) (set_at pre g gs h (n - N.inputs) e) in
      let hn : Has L n = omega (arith, length-append pre (g ∷ gs)) in
      let fused : merged_reader (edge L u n) ≡ accepted h = ap merged_reader (λ i. edge_of N.board u n (r.own i) (at i)) ∙ q in
      let took = reader_took L u n h r.is_sound r.is_gate_lem hn (subst (λ (x : Gate). T (reads u x)) (sym at) t) fused in
      let above = reader_above u n g (subst (GateOk n) at (gate_ok_lem L n r.is_sound hn)) t in
      let took' : StepTaken L (merging n g) (with_gates N (pre ++ h ∷ gs)) =
      subst (λ (x : Gate). StepTaken L (merging n x) (with_gates N (pre ++ h ∷ gs))) at (subst (StepTaken L (merging n (gate_at L n))) set took) in
      record {
        run = run_one took';
        ready = record {
          is_sound = (step_kept L (merging n g) (with_gates N (pre ++ h ∷ gs)) took').sound;
          is_gate_lem = omega (arith, r.is_gate_lem, length-append pre (g ∷ gs), length-append pre (h ∷ gs));
          own = sym (ap (λ (M : Net). gate_at M u) set)
              ∙ get_or-set_other (pre ++ g ∷ gs) (n - N.inputs) (u - N.inputs) h no_gate (omega (arith, r.is_gate_lem)) ∙ r.own;
        };
      }

  readers_run : (n : ℕ) (pre gs hs : List Gate) → length pre ≡ n - N.inputs → N.inputs ≤ n → BetweenMerges N u gate_u (pre ++ gs)
      → merged_readers N.board u gate_u n gs ≡ accepted hs → MergesTaken N u gate_u (reader_steps u n gs) (pre ++ gs) (pre ++ hs)
  unfolding merged_readers reader_steps reads
  readers_run n pre [] hs e low r q =
      subst (λ (x : List Gate). MergesTaken N u gate_u [] (pre ++ []) (pre ++ x)) (accepted_inj q) (record { run = refl; ready = r })
  readers_run n pre (g ∷ gs) hs e low r q =
      let a = bind_accepted (merged_reader (edge_to n g)) _ q in
      let h = a.0 in
      let b = bind_accepted (merged_readers N.board u gate_u (suc n) gs) _ a.2 in
      let later : BetweenMerges N u gate_u (pre ++ h ∷ gs) → MergesTaken N u gate_u (reader_steps u (suc n) gs) (pre ++ h ∷ gs) (pre ++ h ∷ b.0) = λ s.
      rw (append_assoc pre (h ∷ []) gs, append_assoc pre (h ∷ []) b.0) at
      (readers_run (suc n) (pre ++ h ∷ []) gs b.0 (omega (arith, length-append pre (h ∷ []))) (omega arith) (rw (append_assoc pre (h ∷ []) gs) s) b.1) in
      subst (λ (x : List Gate). MergesTaken N u gate_u (reader_steps u n (g ∷ gs)) (pre ++ g ∷ gs) (pre ++ x)) (accepted_inj b.2)
      (cond_case (λ (ss : List Step). MergesTaken N u gate_u ss (pre ++ g ∷ gs) (pre ++ h ∷ b.0)) (silent u g)
      (λ t. let same = merged_reader_silent (edge_to n g) h t a.1 in
      subst (λ (x : Gate). MergesTaken N u gate_u (reader_steps u (suc n) gs) (pre ++ x ∷ gs) (pre ++ h ∷ b.0)) same
      (later (subst (λ (x : Gate). BetweenMerges N u gate_u (pre ++ x ∷ gs)) (sym same) r)))
      (λ t. let first = place_took n pre g gs h e low r t a.1 in
      let rest = later first.ready in
      record { run = run_append _ _ _ (merging n g ∷ []) (reader_steps u (suc n) gs) first.run rest.run; ready = rest.ready }))

-- ---- a collapse
collapse_run : (N : Net) (u : ℕ) (M : Net) → collapse N u ≡ accepted M → StepsTaken N (collapse_steps N u) M
unfolding collapse collapse_steps drop_gate unread
collapse_run N u M q =
    let a = checks_accepted ((sound N else 20) ∷ (is_gate N u else 11) ∷ (all (other u) N.outputs else 17) ∷ []) _ q in
    let d = bind_accepted (merged_readers N.board u (gate_at N u) N.inputs N.gates) _ a.1 in
    let hs = d.0 in
    let s = sound_of N a.0.0 in
    let k = has_of N u a.0.1.0 in
    let m = readers_run N u (gate_at N u) N.inputs [] N.gates hs (omega arith) (omega arith) (record { is_sound = s; is_gate_lem = k; own = refl }) d.1 in
    let L = with_gates N hs in
    let all_collapsed = merged_readers_collapsed N.board u (gate_at N u) N.inputs N.gates hs (gate_ok_lem N u s k) s.all_gates s.all_keep d.1 in
    let silent_all = of_each (silent u) (DoesNotRead u) (free_silent u) hs all_collapsed.free in
    let dropped : drop_gate L u ≡ accepted (without L u) = passed_checks ((sound L else 20) ∷ (is_gate L u else 11) ∷ (unread L u else 17) ∷ []) _ (
      of_sound L m.ready.is_sound,
      (
        of_has L u m.ready.is_gate_lem,
        (and_T (all (silent u) hs) (all (other u) N.outputs) silent_all a.0.1.1.0, tt),
      ),
    ) in
    let last = subst (λ (g : Gate). StepTaken L (dropping u g) (without L u)) m.ready.own (drop_took L u (without L u) dropped) in
    subst (StepsTaken N (collapse_steps N u)) (accepted_inj d.2)
    (run_append N L (without L u) (reader_steps u N.inputs N.gates) (dropping u (gate_at N u) ∷ []) m.run (run_one last))

-- ---- a sweep
turn_run : (N : Net) (B u n : ℕ) (M : Net) → sweep_from N B u n ≡ accepted M → StepsTaken N (turn_steps N B u n) M
unfolding sweep_from turn_steps or_else go_on
turn_run N B u zero M e = accepted≢refused (sym e)
turn_run N B u (suc n) M e = elim (checks few (collapse N u)) as (λ r. checks few (collapse N u) ≡ r → or_else r (sweep_from N B (suc u) n) ≡ accepted M
    → StepsTaken N (go_on r (λ L. collapse_steps N u) (turn_steps N B (suc u) n)) M) [
      | accepted L ↦ λ h e. collapse_run N u M ((checks_accepted few (collapse N u) h).1 ∙ e)
      | refused c ↦ λ h e. turn_run N B (suc u) n M e
    ] refl e
  where
    few : List Test
    few = (leb (readers N u) B else 0) ∷ []

sweeping_run : (n B : ℕ) (N : Net) (c : ℕ) → StepsTaken N (sweep_steps n B N) (sweeping n B N c).net
unfolding sweeping sweep_steps go_on
sweeping_run zero B N c = refl
sweeping_run (suc n) B N c = elim (sweep_once N B) as (λ r. sweep_once N B ≡ r
    → StepsTaken N (go_on r (λ M. turn_steps N B N.inputs (length N.gates) ++ sweep_steps n B M) [])
    (go_on r (λ M. sweeping n B M (suc c)) (record { net = N; collapses = c })).net) [
      | accepted M ↦ λ h. run_append N M (sweeping n B M (suc c)).net (turn_steps N B N.inputs (length N.gates)) (sweep_steps n B M)
          (turn_run N B N.inputs (length N.gates) M (unfold sweep_once in h)) (sweeping_run n B M (suc c))
      | refused d ↦ λ h. refl
    ] refl

sweep_run : (N : Net) (B : ℕ) (s : Swept) → sweep N B ≡ accepted s → StepsTaken N (sweep_steps (length N.gates) B N) s.net
unfolding sweep
sweep_run N B s e = let a = checks_accepted ((sound N else 20) ∷ (leb B 128 else 14) ∷ []) _ e in
    subst (λ (x : Swept). StepsTaken N (sweep_steps (length N.gates) B N) x.net) (accepted_inj a.1) (sweeping_run (length N.gates) B N 0)

-- ---- every call

-- the calls that fold or show
abbrev pub NotUndo : Call → Type 0
NotUndo (Merge u v k l) = Unit {0}
NotUndo (Drop s) = Unit {0}
NotUndo (Collapse s) = Unit {0}
NotUndo (Sweep b) = Unit {0}
NotUndo (Preview s) = Unit {0}
NotUndo Undo = ⊥

-- what such a call gives: a network to which its steps lead, and the journal with these steps
pub record CallRan (q : State) (c : Call) (g : Given) : Type 0 where
  pub run : StepsTaken q.net (steps_of q.net c) g.state.net
  pub left : g.state ≡ moved q c g.state.net

plain_ran : (q : State) (c : Call) (r : Answer Net) (g : Given) → ((M : Net) → r ≡ accepted M → StepsTaken q.net (steps_of q.net c) M)
    → bind r (λ M. accepted (without_figures (moved q c M))) ≡ accepted g → CallRan q c g
unfolding without_figures moved
plain_ran q c r g f e = let b = bind_accepted r _ e in subst (CallRan q c) (accepted_inj b.2) (record { run = f b.0 b.1; left = refl })

swept_ran : (q : State) (B : ℕ) (g : Given)
    → bind (sweep q.net B) (λ s. accepted (with_collapses (moved q (Sweep B) s.net) s.collapses)) ≡ accepted g → CallRan q (Sweep B) g
unfolding with_collapses moved steps_of
swept_ran q B g e = let b = bind_accepted (sweep q.net B) _ e in
    subst (CallRan q (Sweep B)) (accepted_inj b.2) (record { run = sweep_run q.net B b.0 b.1; left = refl })

shown_ran : (q : State) (u : ℕ) (g : Given) → bind (collapse q.net u) (λ M. accepted (shown q M)) ≡ accepted g → CallRan q (Preview u) g
unfolding shown moved steps_of entered_all
shown_ran q u g e = let b = bind_accepted (collapse q.net u) _ e in subst (CallRan q (Preview u)) (accepted_inj b.2) (record { run = refl; left = refl })

pub reply_ran : (q : State) (c : Call) (g : Given) → NotUndo c → reply_of q c ≡ accepted g → CallRan q c g
unfolding reply_of steps_of
reply_ran q (Merge u v k l) g n e =
    plain_ran q (Merge u v k l) (merge q.net u v k l) g (λ M h. run_one (merge_took q.net u v k l M h)) e
reply_ran q (Drop u) g n e = plain_ran q (Drop u) (drop_gate q.net u) g (λ M h. run_one (drop_took q.net u M h)) e
reply_ran q (Collapse u) g n e = plain_ran q (Collapse u) (collapse q.net u) g (collapse_run q.net u) e
reply_ran q (Sweep B) g n e = swept_ran q B g e
reply_ran q (Preview u) g n e = shown_ran q u g e
reply_ran q Undo g n e = elim n [ ]
