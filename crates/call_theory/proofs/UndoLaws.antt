-- The undo of one merge and of one drop gives back the network before it, exactly. Assumes nothing.
use Rattle.std.specs.Prelude.{◌≡◌, refl, ◌&&◌, List, [], ◌∷◌, map, ◌≢◌, ℕ, zero, suc, ◌+◌, ◌-◌, T, leb, length, get_or, set}
use Rattle.std.proofs.Common.{sym, ap, ◌∙◌, subst, arith, le→leb, length-set}
use Rattle.basics.specs.Lists.{all, other, Each}
use Rattle.basics.specs.TestLaws.{T_and, and_T}
use Rattle.basics.specs.ListLaws.{each_of, all_other}
use Rattle.basics.specs.Refusals.{accepted, ◌else◌}
use Rattle.basics.specs.RefusalLaws.{accepted_inj, checks_accepted}
use Rattle.network.specs.Threshold.{Feed, Gate, Net}
use Rattle.network.specs.Limits.{signals_of, is_gate, sound}
use Rattle.network.specs.Record.{no_gate}
use Rattle.network.specs.Changes.{remade, with_gates, gate_at, with_gate, lowered, lowered_feed, lowered_gate, remove_at, without}
use Rattle.network.specs.Changes.{raised, raised_feed, raised_gate, insert_at, inserted}
use Rattle.network.specs.ChangeLaws.{raised_lowered, insert_remove}
use Rattle.network.specs.Sound.{Has}
use Rattle.network.specs.LimitLaws.{has_of, of_has}
use Rattle.fold_theory.specs.Merge.{edge, silent, merged, limits, merge}
use Rattle.fold_theory.specs.Collapse.{unread, drop_gate}
use Rattle.fold_theory.proofs.LowerLaws.{DoesNotRead, silent_free}
use Rattle.fold_theory.proofs.SoundLaws.{without_size}
use Rattle.fold_theory.proofs.StepLaws.{Kept, merge_kept, merge_net, drop_kept}
use Rattle.call_theory.specs.Steps.{Step, merging, dropping, undo_of, placed}
use Rattle.call_theory.specs.Trail.{StepTaken}

-- ---- a gate put back in its place
set_back : {A : Type 0} (xs : List A) (i : ℕ) (a d : A) → set (set xs i a) i (get_or xs i d) ≡ xs
set_back [] i a d = refl
set_back (x ∷ xs) zero a d = refl
set_back {A} (x ∷ xs) (suc i) a d = ap (λ (l : List A). x ∷ l) (set_back xs i a d)

with_gate_back : (N : Net) (v : ℕ) (h : Gate) → with_gate (with_gate N v h) v (gate_at N v) ≡ N
unfolding with_gate gate_at
with_gate_back N v h = ap (with_gates N) (set_back N.gates (v - N.inputs) h no_gate)

with_gate_size : (N : Net) (v : ℕ) (g : Gate) → Has N v → Has (with_gate N v g) v
unfolding with_gate
with_gate_size N v g h = omega (arith, h, length-set N.gates (v - N.inputs) g)

pub merge_took : (N : Net) (u v k l : ℕ) (M : Net) → merge N u v k l ≡ accepted M → StepTaken N (merging v (gate_at N v)) M
unfolding undo_of placed merge limits
merge_took N u v k l M h =
    let a = (checks_accepted (limits N u v k l) _ h).0 in
    let hv = has_of N v (T_and (is_gate N u) (is_gate N v) a.1.0).1 in
    let e : with_gate N v (merged (edge N u v) k l) ≡ M = accepted_inj (sym (merge_net N u v k l M h) ∙ h) in
    record {
      single = (refl, (u, k, l, h));
      fits = subst (λ (x : Net). T (is_gate x v)) e (of_has (with_gate N v (merged (edge N u v) k l)) v (with_gate_size N v (merged (edge N u v) k l) hv));
      back = ap (λ (x : Net). with_gate x v (gate_at N v)) (sym e) ∙ with_gate_back N v (merged (edge N u v) k l);
    }

-- ---- a removed gate put back
raised_feeds : (u : ℕ) (fs : List Feed) → Each (λ s. s ≢ u) (signals_of fs) → map (raised_feed u) (map (lowered_feed u) fs) ≡ fs
unfolding raised_feed lowered_feed signals_of
raised_feeds u [] h = refl
raised_feeds u (f ∷ fs) h = rw (raised_lowered u f.signal h.0, raised_feeds u fs h.1)

raised_gate_lem : (u : ℕ) (g : Gate) → DoesNotRead u g → raised_gate u (lowered_gate u g) ≡ g
unfolding raised_gate lowered_gate
raised_gate_lem u g h = ap (λ (fs : List Feed). record { feeds = fs; threshold = g.threshold }) (raised_feeds u g.feeds h)

raised_gates : (u : ℕ) (gs : List Gate) → Each (DoesNotRead u) gs → map (raised_gate u) (map (lowered_gate u) gs) ≡ gs
raised_gates u [] h = refl
raised_gates u (g ∷ gs) h = rw (raised_gate_lem u g h.0, raised_gates u gs h.1)

raised_outputs : (u : ℕ) (ss : List ℕ) → Each (λ s. s ≢ u) ss → map (raised u) (map (lowered u) ss) ≡ ss
raised_outputs u [] h = refl
raised_outputs u (s ∷ ss) h = rw (raised_lowered u s h.0, raised_outputs u ss h.1)

each_remove : {A : Type 0} (P : A → Type 0) (i : ℕ) (xs : List A) → Each P xs → Each P (remove_at i xs)
unfolding remove_at
each_remove P i [] h = tt
each_remove P zero (x ∷ xs) h = h.1
each_remove P (suc i) (x ∷ xs) h = (h.0, each_remove P i xs h.1)

-- "inserted" is the inverse of "without", where nothing reads the gate
inserted_without : (N : Net) (u : ℕ) → Has N u → Each (DoesNotRead u) N.gates → Each (λ s. s ≢ u) N.outputs
    → inserted (without N u) u (gate_at N u) ≡ N
unfolding inserted without gate_at
inserted_without N u k f o =
    let i = u - N.inputs in
    let gates = ap (insert_at i (get_or N.gates i no_gate)) (raised_gates u (remove_at i N.gates) (each_remove (DoesNotRead u) i N.gates f))
    ∙ insert_remove i N.gates no_gate (omega arith) in
    ap (λ (gs : List Gate). remade N gs (map (raised u) (map (lowered u) N.outputs))) gates
    ∙ ap (remade N N.gates) (raised_outputs u N.outputs o)

room_without : (N : Net) (u : ℕ) → Has N u → T (leb (without N u).inputs u && leb u ((without N u).inputs + length (without N u).gates))
unfolding without
room_without N u k = let size = without_size N u k in
    and_T (leb N.inputs u) (leb u (N.inputs + length (without N u).gates)) (le→leb N.inputs u (omega arith))
    (le→leb u (N.inputs + length (without N u).gates) (omega (arith, size)))

pub drop_took : (N : Net) (u : ℕ) (M : Net) → drop_gate N u ≡ accepted M → StepTaken N (dropping u (gate_at N u)) M
unfolding drop_gate unread undo_of placed
drop_took N u M h =
    let a = checks_accepted ((sound N else 20) ∷ (is_gate N u else 11) ∷ (unread N u else 17) ∷ []) _ h in
    let r = T_and (all (silent u) N.gates) (all (other u) N.outputs) a.0.1.1.0 in
    let k = has_of N u a.0.1.0 in
    let back = inserted_without N u k (each_of (silent u) (DoesNotRead u) (silent_free u) N.gates r.0) (all_other u N.outputs r.1) in
    record {
      single = (refl, h);
      fits = subst (λ (x : Net). T (leb x.inputs u && leb u (x.inputs + length x.gates))) (accepted_inj a.1) (room_without N u k);
      back = ap (λ (x : Net). inserted x u (gate_at N u)) (sym (accepted_inj a.1)) ∙ back;
    }

-- ---- what a single step keeps

pub step_kept : (N : Net) (s : Step) (M : Net) → StepTaken N s M → Kept N M
step_kept N (merging v g) M t = let h = t.single.1 in merge_kept N h.0 v h.1 h.2 M h.3
step_kept N (dropping u g) M t = drop_kept N u M t.single.1
