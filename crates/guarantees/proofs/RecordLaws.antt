-- Any record and any call are as claimed. Assumes nothing.
use Rattle.std.specs.Prelude.{◌≡◌, refl, Bool, false, ◌≢◌, ℕ, suc, ◌+◌, ◌-◌, ◌≤◌, ◌<◌, T, leb, ltb, length}
use Rattle.std.proofs.Common.{sym, ◌∙◌, true≢false, ltb→lt}
use Rattle.std.proofs.Math.Path.{ap, subst}
use Rattle.std.proofs.Math.Bool.{true}
use mathlib.Core.List.{List, [], ◌∷◌}
use native.Mathlib.Omega.{arith}
use Rattle.basics.specs.Refusals.{Answer, accepted, refused, Test, ◌else◌, checks, bind}
use Rattle.basics.specs.RefusalLaws.{accepted≢refused, accepted_inj, checks_accepted, checks_next, checks_none, bind_accepted}
use Rattle.basics.specs.TestLaws.{is_true, T_is, T_and, and_T, cond_case}
use Rattle.network.specs.Threshold.{Gate, Net}
use Rattle.network.specs.Limits.{is_gate, sound}
use Rattle.network.specs.Sound.{Sound}
use Rattle.network.specs.Record.{net_of, layout, sound_record}
use Rattle.network.specs.LimitLaws.{sound_of, of_sound}
use Rattle.network.specs.RecordLaws.{sound_layout, sound_net}
use Rattle.network.specs.declared.Board.{Board}
use Rattle.network.specs.declared.Network.{Network}
use Rattle.fold_theory.specs.Merge.{Edge, edge_of, edge, silent, reads, merged, limits, merge}
use Rattle.fold_theory.specs.Pair.{first, qualifies, pairs, pair_tests, pair_of}
use Rattle.fold_theory.specs.Collapse.{drop_gate, merged_reader, merged_readers, collapse}
use Rattle.fold_theory.specs.Sweep.{Swept, sweep}
use Rattle.fold_theory.proofs.RefusalLaws.{NeverSays, checks_never, bind_never}
use Rattle.fold_theory.proofs.StepLaws.{merge_kept, drop_kept, collapse_kept}
use Rattle.call_theory.specs.Steps.{Step, undo_of, State, just_opened, sound_state, placed, undoable, latest, undo}
use Rattle.call_theory.specs.Calls.{Given, no_figures, without_figures, with_collapses, shown, steps_of, moved, reply_of, answer, leaves}
use Rattle.call_theory.proofs.TraceLaws.{Traced}
use Rattle.call_theory.proofs.GuaranteeLaws.{opened_traced, call_traced}
use Rattle.call_theory.specs.declared.Call.{Call}
use Rattle.call_theory.specs.declared.Call.TheVariants.{Merge, Drop, Collapse, Sweep, Preview, Undo}
use Rattle.journal.specs.Journals.{with_step, enter, enter_all, without_newest}
use Rattle.journal.specs.Records.{state_of, sound_whole}
use Rattle.journal.specs.Answers.{journal_after, as_call_answer, applied}
use Rattle.journal.proofs.AnswerLaws.{whole_network, whole_few, whole_of, whole_state, applied_sound, applied_broken}
use Rattle.journal.specs.declared.CallAnswer.{CallAnswer}
use Rattle.journal.specs.declared.Journal.{Journal}
use Rattle.journal.specs.declared.Record.{Record}
use Rattle.guarantees.specs.Records.{RecordClaim}
use Rattle.guarantees.proofs.AnswerLaws.{by_test}

-- ---- no reply of a call on a sound network is 20

-- after a first test that holds
never_after : {A : Type 0} (b : Bool) (ts : List Test) (r : Answer A) → T b → NeverSays 20 (checks ts r) → NeverSays 20 (checks ((b else 20) ∷ ts) r)
never_after b ts r t h = subst (NeverSays 20) (sym (checks_next b 20 ts r (is_true b t))) h

first_never : {A : Type 0} (p : A → Bool) (xs : List A) → NeverSays 20 (first p xs 16)
unfolding first
first_never p [] = omega arith
first_never p (y ∷ xs) = cond_case (NeverSays 20) (p y) {x = accepted y} {y = first p xs 16} (λ t. tt) (λ t. first_never p xs)

pair_of_never : (e : Edge) → NeverSays 20 (pair_of e)
unfolding pair_of pair_tests
pair_of_never e = checks_never 20 _ (first (qualifies e) pairs 16) (omega arith, tt) (first_never (qualifies e) pairs)

reader_never : (e : Edge) → NeverSays 20 (merged_reader e)
unfolding merged_reader
reader_never e =
    cond_case (NeverSays 20) (silent e.u e.gate_v) {x = accepted e.gate_v} {y = bind (pair_of e) (λ p. accepted (merged e p.k p.l))}
    (λ t. tt) (λ t. bind_never 20 (pair_of e) _ (pair_of_never e) (λ p. tt))

readers_never : (b : Board) (u : ℕ) (gate_u : Gate) (m : ℕ) (gs : List Gate) → NeverSays 20 (merged_readers b u gate_u m gs)
unfolding merged_readers
readers_never b u gate_u m [] = tt
readers_never b u gate_u m (g ∷ gs) =
    bind_never 20 (merged_reader (edge_of b u m gate_u g)) _ (reader_never (edge_of b u m gate_u g))
    (λ h. bind_never 20 (merged_readers b u gate_u (suc m) gs) _ (readers_never b u gate_u (suc m) gs) (λ hs. tt))

module _ (N : Net) (t : T (sound N)) where
  merge_never : (u v k l : ℕ) → NeverSays 20 (merge N u v k l)
  unfolding merge limits
  merge_never u v k l = never_after (sound N) _ _ t
      (checks_never 20 _ _ (omega arith, (omega arith, (omega arith, (omega arith, (omega arith, tt)))))
      (checks_never 20 _ (accepted _) (omega arith, (omega arith, tt)) tt))

  drop_never : (u : ℕ) → NeverSays 20 (drop_gate N u)
  unfolding drop_gate
  drop_never u = never_after (sound N) _ _ t (checks_never 20 _ (accepted _) (omega arith, (omega arith, tt)) tt)

  collapse_never : (u : ℕ) → NeverSays 20 (collapse N u)
  unfolding collapse
  collapse_never u = never_after (sound N) _ _ t (checks_never 20 _ _ (omega arith, (omega arith, tt))
      (bind_never 20 (merged_readers _ _ _ _ N.gates) _ (readers_never _ _ _ _ N.gates) (λ gs. tt)))

  sweep_never : (B : ℕ) → NeverSays 20 (sweep N B)
  unfolding sweep
  sweep_never B = never_after (sound N) _ _ t (checks_never 20 _ (accepted _) (omega arith, tt) tt)

latest_never : (N : Net) (ss : List Step) → NeverSays 20 (latest N ss)
unfolding latest
latest_never N [] = omega arith
latest_never N (s ∷ ss) = checks_never 20 ((undoable N s else 23) ∷ []) (accepted _) (omega arith, tt) tt

module _ (q : State) (standing : T (sound_state q)) where
  net_is : T (sound q.net)
  unfolding sound_state
  net_is = (T_and (sound q.net) (leb (length q.steps) 64) standing).0

  reply_never : (c : Call) → NeverSays 20 (reply_of q c)
  unfolding reply_of undo
  reply_never (Merge u v k l) = bind_never 20 (merge q.net u v k l) _ (merge_never q.net net_is u v k l) (λ M. tt)
  reply_never (Drop u) = bind_never 20 (drop_gate q.net u) _ (drop_never q.net net_is u) (λ M. tt)
  reply_never (Collapse u) = bind_never 20 (collapse q.net u) _ (collapse_never q.net net_is u) (λ M. tt)
  reply_never (Sweep B) = bind_never 20 (sweep q.net B) _ (sweep_never q.net net_is B) (λ s. tt)
  reply_never (Preview u) = bind_never 20 (collapse q.net u) _ (collapse_never q.net net_is u) (λ M. tt)
  reply_never Undo = bind_never 20 (undo q) _ (never_after (sound_state q) [] _ standing (checks_never 20 [] _ tt (latest_never q.net q.steps))) (λ p. tt)

  -- ---- what an accepted call leaves is sound
  by : {g h : Given} → Sound g.state.net → g ≡ h → Sound h.state.net
  by s e = subst (λ (x : Given). Sound x.state.net) e s

  -- a sweep, as a call on the same network with no step before it
  sweep_sound : (B : ℕ) (s : Swept) → sweep q.net B ≡ accepted s → Sound s.net
  unfolding leaves answer reply_of with_collapses moved just_opened sound_state bind
  sweep_sound B s e =
      let q₀ = just_opened q.net in
      let n = sound_of q.net net_is in
      let a : answer q₀ (Sweep B) ≡ reply_of q₀ (Sweep B) = checks_next (sound_state q₀) 20 [] (reply_of q₀ (Sweep B)) (is_true (sound_state q₀) (and_T (sound q.net) true net_is tt))
      ∙ checks_none (reply_of q₀ (Sweep B)) in
      let r : reply_of q₀ (Sweep B) ≡ accepted (with_collapses (moved q₀ (Sweep B) s.net) s.collapses) =
      ap (λ (x : Answer Swept). bind x (λ s. accepted (with_collapses (moved q₀ (Sweep B) s.net) s.collapses))) e in
      subst (λ (x : Answer Given). Sound (leaves q₀ x).net) (a ∙ r) (call_traced q.net q₀ (Sweep B) (opened_traced q.net n)).kept.sound

  latest_sound : (N : Net) (ss : List Step) (p : State) → latest N ss ≡ accepted p → Sound p.net
  unfolding latest undoable
  latest_sound N [] p e = accepted≢refused (sym e)
  latest_sound N (s ∷ ss) p e =
      let c = checks_accepted ((undoable N s else 23) ∷ []) (accepted _) e in
      let u = T_and (placed N s) (sound (undo_of N s)) c.0.0 in
      subst (λ (x : State). Sound x.net) (accepted_inj c.1) (sound_of (undo_of N s) u.1)

  left_sound : (c : Call) (g : Given) → reply_of q c ≡ accepted g → Sound g.state.net
  unfolding reply_of without_figures with_collapses shown moved undo
  left_sound (Merge u v k l) g e =
      let b = bind_accepted (merge q.net u v k l) _ e in by (merge_kept q.net u v k l b.0 b.1).sound (accepted_inj b.2)
  left_sound (Drop u) g e = let b = bind_accepted (drop_gate q.net u) _ e in by (drop_kept q.net u b.0 b.1).sound (accepted_inj b.2)
  left_sound (Collapse u) g e =
      let b = bind_accepted (collapse q.net u) _ e in by (collapse_kept q.net u b.0 b.1).all_kept.sound (accepted_inj b.2)
  left_sound (Sweep B) g e = let b = bind_accepted (sweep q.net B) _ e in by (sweep_sound B b.0 b.1) (accepted_inj b.2)
  left_sound (Preview u) g e = let b = bind_accepted (collapse q.net u) _ e in by (sound_of q.net net_is) (accepted_inj b.2)
  left_sound Undo g e =
      let b = bind_accepted (undo q) _ e in
      let c = checks_accepted ((sound_state q else 20) ∷ []) (latest q.net q.steps) b.1 in
      by (latest_sound q.net q.steps b.0 c.1) (accepted_inj b.2)

-- ---- the journal's count
enter_few : (j : Journal) (s : Step) → j.count ≤ 64 → (enter j s).count ≤ 64
unfolding enter with_step
enter_few j s h = cond_case (λ (n : ℕ). n ≤ 64) (ltb j.count 64) (λ t. let k = ltb→lt j.count 64 t in omega arith) (λ t. omega arith)

enter_all_few : (j : Journal) (ss : List Step) → j.count ≤ 64 → (enter_all j ss).count ≤ 64
unfolding enter_all
enter_all_few j [] h = h
enter_all_few j (s ∷ ss) h = enter_all_few (enter j s) ss (enter_few j s h)

after_few : (j : Journal) (N : Net) (c : Call) → j.count ≤ 64 → (journal_after j N c).count ≤ 64
unfolding journal_after without_newest
after_few j N (Merge u v k l) h = enter_all_few j (steps_of N (Merge u v k l)) h
after_few j N (Drop s) h = enter_all_few j (steps_of N (Drop s)) h
after_few j N (Collapse s) h = enter_all_few j (steps_of N (Collapse s)) h
after_few j N (Sweep b) h = enter_all_few j (steps_of N (Sweep b)) h
after_few j N (Preview s) h = enter_all_few j (steps_of N (Preview s)) h
after_few j N Undo h = omega arith

-- ---- the answer as the call gives it
code_never : (r : Record) (c : Call) (a : Answer Given) → NeverSays 20 a → (as_call_answer r c a).code ≢ 20
unfolding as_call_answer
code_never r c (accepted g) h = omega arith
code_never r c (refused k) h = h

refused_same : (r : Record) (c : Call) (a : Answer Given) → (as_call_answer r c a).code ≢ 0 → (as_call_answer r c a).after ≡ r
unfolding as_call_answer
refused_same r c (accepted g) h = absurd (h refl)
refused_same r c (refused k) h = refl

refused_none : (r : Record) (c : Call) (a : Answer Given) → (as_call_answer r c a).code ≢ 0 → (as_call_answer r c a).figures ≡ no_figures
unfolding as_call_answer
refused_none r c (accepted g) h = absurd (h refl)
refused_none r c (refused k) h = refl

after_sound : (r : Record) (c : Call) → sound_whole r ≡ true → (a : Answer Given) → reply_of (state_of r) c ≡ a → sound_whole (as_call_answer r c a).after ≡ true
unfolding as_call_answer
after_sound r c w (accepted g) e =
    let s = left_sound (state_of r) (T_is (sound_state (state_of r)) (whole_state r w)) c g e in
    whole_of _ (is_true (sound_record (layout g.state.net)) (sound_layout g.state.net s)) (after_few r.journal (net_of r.network) c (whole_few r w))
after_sound r c w (refused k) e = w

pub record_claim : (r : Record) (c : Call) → RecordClaim r c
unfolding applied
record_claim r c = record {
  unsound = applied_broken r c;
  only_then = λ h. by_test (sound_whole r)
      (λ w. absurd (code_never r c (reply_of (state_of r) c) (reply_never (state_of r) (T_is (sound_state (state_of r)) (whole_state r w)) c)
      (sym (ap (λ (o : CallAnswer). o.code) (applied_sound r c w)) ∙ h)))
      (λ w. w);
  unchanged = refused_same r c _;
  no_figures_lem = refused_none r c _;
  stays_sound = λ w. ap (λ (o : CallAnswer). sound_whole o.after) (applied_sound r c w) ∙ after_sound r c w (reply_of (state_of r) c) refl;
}
