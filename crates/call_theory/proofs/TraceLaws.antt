-- The journal on the way: as many undos as a call has steps give back the network before it; and from the state of a read on, every undo gives
-- back a sound network that agrees with the one read. Assumes nothing.
use Rattle.std.specs.Prelude.{◌≡◌, refl, List, [], ◌∷◌, ℕ, zero, suc, ◌+◌, ◌-◌, ◌≤◌, ◌<◌, T, leb, length, get_or, take}
use Rattle.std.proofs.Common.{sym, ap, ◌∙◌, subst, arith, le→leb, length-take, take_all}
use Rattle.basics.specs.Lists.{Each}
use Rattle.basics.specs.TestLaws.{and_T}
use Rattle.basics.specs.Refusals.{Answer, accepted, refused, ◌else◌, bind}
use Rattle.basics.specs.RefusalLaws.{passed_checks}
use Rattle.network.specs.Threshold.{Gate, Net}
use Rattle.network.specs.Limits.{sound}
use Rattle.network.specs.Record.{no_gate}
use Rattle.network.specs.Changes.{gate_at}
use Rattle.network.specs.Sound.{GatesOk, Sound}
use Rattle.network.specs.LimitLaws.{of_sound}
use Rattle.fold_theory.proofs.StepLaws.{Kept}
use Rattle.fold_theory.proofs.SweepLaws.{kept_trans}
use Rattle.call_theory.specs.Steps.{Step, merging, dropping, old_gate, undo_of, entered, entered_all}
use Rattle.call_theory.specs.Steps.{State, just_opened, sound_state, placed, undoable, latest, undo}
use Rattle.call_theory.specs.Calls.{Given, without_figures, reply_of, answer, leaves, undos}
use Rattle.call_theory.specs.Preserved.{end_of, undoing}
use Rattle.call_theory.proofs.UndoLaws.{step_kept}
use Rattle.call_theory.specs.Trail.{SingleStep, StepsTaken}
use Rattle.call_theory.specs.declared.Call.{Call}
use Rattle.call_theory.specs.declared.Call.TheVariants.{Undo}

-- ---- sound states

-- a sound state, as facts
pub record StateFacts (q : State) : Type 0 where
  pub net_sound : Sound q.net
  pub short : length q.steps ≤ 64

pub standing_sound : (q : State) → StateFacts q → T (sound_state q)
unfolding sound_state
standing_sound q s =
    and_T (sound q.net) (leb (length q.steps) 64) (of_sound q.net s.net_sound) (le→leb (length q.steps) 64 s.short)

-- there the answer is by the call's own order
pub answer_reply : (q : State) (c : Call) → StateFacts q → answer q c ≡ reply_of q c
unfolding answer
answer_reply q c s = passed_checks ((sound_state q else 20) ∷ []) (reply_of q c) (standing_sound q s, tt)

-- ---- one undo

undo_latest : (q : State) → StateFacts q → answer q Undo ≡ bind (latest q.net q.steps) (λ p. accepted (without_figures p))
unfolding reply_of undo
undo_latest q s = answer_reply q Undo s ∙ ap (λ (r : Answer State). bind r (λ p. accepted (without_figures p)))
    (passed_checks ((sound_state q else 20) ∷ []) (latest q.net q.steps) (standing_sound q s, tt))

undo_none : (N : Net) → Sound N → answer (record { net = N; steps = [] }) Undo ≡ refused 22
unfolding latest bind
undo_none N s = undo_latest (record { net = N; steps = [] }) (record { net_sound = s; short = omega arith })

-- the newest step has a place, and leaves a sound network
undo_some : (N : Net) (s : Step) (ss : List Step) → StateFacts (record { net = N; steps = s ∷ ss }) → T (placed N s) → Sound (undo_of N s)
    → answer (record { net = N; steps = s ∷ ss }) Undo ≡ accepted (without_figures (record { net = undo_of N s; steps = ss }))
unfolding latest undoable bind
undo_some N s ss h p k = undo_latest (record { net = N; steps = s ∷ ss }) h
    ∙ ap (λ (r : Answer State). bind r (λ q. accepted (without_figures q)))
    (passed_checks ((undoable N s else 23) ∷ []) (accepted (record { net = undo_of N s; steps = ss }))
    (and_T (placed N s) (sound (undo_of N s)) p (of_sound (undo_of N s) k), tt))

-- ---- entering steps

length_entered : (s : Step) (ss : List Step) → length (entered s ss) ≤ 64
unfolding entered
length_entered s ss = omega (arith, length-take 64 (s ∷ ss))

length_entered_all : (new ss : List Step) → length ss ≤ 64 → length (entered_all new ss) ≤ 64
unfolding entered_all
length_entered_all [] ss h = h
length_entered_all (s ∷ new) ss h = length_entered_all new (entered s ss) (length_entered s ss)

-- ---- as many undos as steps

-- one undo more comes last
undos_last : (n : ℕ) (q : State) → undos (suc n) q ≡ leaves (undos n q) (answer (undos n q) Undo)
unfolding undos
undos_last zero q = refl
undos_last (suc n) q = undos_last n (leaves q (answer q Undo))

take-take : {A : Type 0} (a b : ℕ) (xs : List A) → a ≤ b → take a (take b xs) ≡ take a xs
take-take zero b xs h = refl
take-take (suc a) zero xs h = absurd (omega arith)
take-take (suc a) (suc b) [] h = refl
take-take {A} (suc a) (suc b) (x ∷ xs) h = ap (λ (l : List A). x ∷ l) (take-take a b xs (omega arith))

-- the newest of the steps that are left when n later ones were taken back
newest_left : (n : ℕ) (s : Step) (ss : List Step) → suc n ≤ 64 → take (64 - n) (entered s ss) ≡ s ∷ take (64 - suc n) ss
unfolding entered
newest_left n s ss h = take-take (64 - n) 64 (s ∷ ss) (omega arith) ∙ ap (λ (k : ℕ). take k (s ∷ ss)) {x = 64 - n} {y = suc (64 - suc n)} (omega arith)

pub run_undos : (N M : Net) (new ss : List Step) → Sound N → StepsTaken N new M → length ss ≤ 64 → length new ≤ 64
    → undos (length new) (record { net = M; steps = entered_all new ss }) ≡ record { net = N; steps = take (64 - length new) ss }
unfolding undos entered_all leaves without_figures
run_undos N M [] ss k r h l = λ i. record { net = sym r i; steps = sym (take_all 64 ss h) i }
run_undos N M (s ∷ new) ss k r h l =
    let L = r.0 in
    let t = r.1 in
    let n = length new in
    let rest = take (64 - suc n) ss in
    let q : State = record { net = M; steps = entered_all new (entered s ss) } in
    let few : length rest ≤ 63 = omega (arith, length-take (64 - suc n) ss) in
    let before = run_undos L M new (entered s ss) (step_kept N s L t).sound r.2 (length_entered s ss) (omega arith)
    ∙ ap (λ (l : List Step). record { net = L; steps = l }) (newest_left n s ss l) in
    let last = undo_some L s rest (record { net_sound = (step_kept N s L t).sound; short = omega arith }) t.fits (subst Sound (sym t.back) k) in
    undos_last n q ∙ ap (λ (p : State). leaves p (answer p Undo)) before
    ∙ ap (leaves (record { net = L; steps = s ∷ rest })) last
    ∙ ap (λ (x : Net). record { net = x; steps = rest }) t.back

-- ---- the states that a read and calls lead to

-- a step's gate has at most 16 feeds
abbrev pub NarrowStep : Step → Type 0
NarrowStep s = length (old_gate s).feeds ≤ 16

-- each step can be taken back, and P holds of the network after each undo
abbrev EachTakenBack : (Net → Type 0) → Net → List Step → Type 0
EachTakenBack P N [] = Unit {0}
EachTakenBack P N (s ∷ ss) = T (placed N s) × P (undo_of N s) × EachTakenBack P (undo_of N s) ss

-- all steps of a journal taken back
unfoldable pub unwound : Net → List Step → Net
unwound N [] = N
unwound N (s ∷ ss) = unwound (undo_of N s) ss

-- the network keeps what R has, and so does every one that further undos reach
pub record Traced (R : Net) (q : State) : Type 0 where
  pub kept : Kept R q.net
  pub backed : EachTakenBack (Kept R) q.net q.steps
  pub short : length q.steps ≤ 64
  pub narrow : Each NarrowStep q.steps

pub traced_standing : (R : Net) (q : State) → Traced R q → StateFacts q
traced_standing R q t = record { net_sound = t.kept.sound; short = t.short }

backed_take : (P : Net → Type 0) (N : Net) (n : ℕ) (ss : List Step) → EachTakenBack P N ss → EachTakenBack P N (take n ss)
backed_take P N zero ss b = tt
backed_take P N (suc n) [] b = tt
backed_take P N (suc n) (s ∷ ss) b = (b.0, b.1, backed_take P (undo_of N s) n ss b.2)

each_take : {A : Type 0} (P : A → Type 0) (n : ℕ) (xs : List A) → Each P xs → Each P (take n xs)
each_take P zero xs h = tt
each_take P (suc n) [] h = tt
each_take P (suc n) (x ∷ xs) h = (h.0, each_take P n xs h.1)

gates_narrow : (n : ℕ) (gs : List Gate) (i : ℕ) → GatesOk n gs → length (get_or gs i no_gate).feeds ≤ 16
gates_narrow n [] i h = omega arith
gates_narrow n (g ∷ gs) zero h = h.0.few
gates_narrow n (g ∷ gs) (suc i) h = gates_narrow (suc n) gs i h.1

single_narrow : (N M : Net) (s : Step) → Sound N → SingleStep N s M → NarrowStep s
unfolding old_gate gate_at
single_narrow N M (merging v g) k h =
    subst (λ (x : Gate). length x.feeds ≤ 16) (sym h.0) (gates_narrow N.inputs N.gates (v - N.inputs) k.all_gates)
single_narrow N M (dropping u g) k h =
    subst (λ (x : Gate). length x.feeds ≤ 16) (sym h.0) (gates_narrow N.inputs N.gates (u - N.inputs) k.all_gates)

-- after a run of further steps
pub run_traced : (R N M : Net) (new ss : List Step) → StepsTaken N new M → Traced R (record { net = N; steps = ss })
    → Traced R (record { net = M; steps = entered_all new ss })
unfolding entered_all entered
run_traced R N M [] ss r q = subst (λ (x : Net). Traced R (record { net = x; steps = ss })) r q
run_traced R N M (s ∷ new) ss r q =
    let L = r.0 in
    let t = r.1 in
    let after : Kept R (undo_of L s) × EachTakenBack (Kept R) (undo_of L s) ss =
    subst (λ (x : Net). Kept R x × EachTakenBack (Kept R) x ss) (sym t.back) (q.kept, q.backed) in
    let back : EachTakenBack (Kept R) L (s ∷ ss) = (t.fits, after.0, after.1) in
    run_traced R L M new (entered s ss) r.2 (record {
      kept = kept_trans q.kept (step_kept N s L t);
      backed = backed_take (Kept R) L 64 (s ∷ ss) back;
      short = length_entered s ss;
      narrow = each_take NarrowStep 64 (s ∷ ss) (single_narrow N L s q.kept.sound t.single, q.narrow);
    })

-- where no step is lost, the undos lead to the same network as before the run
pub run_unwound : (N M : Net) (new ss : List Step) → StepsTaken N new M → length new + length ss ≤ 64
    → (unwound M (entered_all new ss) ≡ unwound N ss) × (length (entered_all new ss) ≡ length new + length ss)
unfolding entered_all entered unwound
run_unwound N M [] ss r h = (ap (λ (x : Net). unwound x ss) (sym r), omega arith)
run_unwound N M (s ∷ new) ss r h =
    let all : take 64 (s ∷ ss) ≡ s ∷ ss = take_all 64 (s ∷ ss) (omega arith) in
    let next = run_unwound r.0 M new (s ∷ ss) r.2 (omega arith) in
    subst (λ (x : List Step). (unwound M (entered_all new x) ≡ unwound N ss) × (length (entered_all new x) ≡ suc (length new) + length ss)) (sym all)
    (next.0 ∙ ap (λ (x : Net). unwound x ss) r.1.back, omega (arith, next.1))

-- ---- undo on that way

pub traced_none : (R N : Net) → Traced R (record { net = N; steps = [] }) → answer (record { net = N; steps = [] }) Undo ≡ refused 22
traced_none R N t = undo_none N t.kept.sound

pub traced_some : (R N : Net) (s : Step) (ss : List Step) → Traced R (record { net = N; steps = s ∷ ss })
    → answer (record { net = N; steps = s ∷ ss }) Undo ≡ accepted (without_figures (record { net = undo_of N s; steps = ss }))
traced_some R N s ss t = undo_some N s ss (traced_standing R (record { net = N; steps = s ∷ ss }) t) t.backed.0 t.backed.1.sound

pub undo_traced : (R N : Net) (s : Step) (ss : List Step) → Traced R (record { net = N; steps = s ∷ ss }) → Traced R (record { net = undo_of N s; steps = ss })
undo_traced R N s ss t = record { kept = t.backed.1; backed = t.backed.2; short = omega (arith, t.short); narrow = t.narrow.1 }

-- repeated undos end with 22, at the network that all steps of the journal lead back to
pub undoing_ends : (R : Net) (n : ℕ) (N : Net) (ss : List Step) → Traced R (record { net = N; steps = ss }) → length ss < n
    → undoing n (record { net = N; steps = ss }) ≡ record { state = just_opened (unwound N ss); code = 22 }
unfolding undoing end_of unwound just_opened without_figures
undoing_ends R zero N ss t h = absurd (omega arith)
undoing_ends R (suc n) N [] t h = ap (λ (r : Answer Given). end_of (record { net = N; steps = [] }) r (undoing n)) (traced_none R N t)
undoing_ends R (suc n) N (s ∷ ss) t h = ap (λ (r : Answer Given). end_of (record { net = N; steps = s ∷ ss }) r (undoing n)) (traced_some R N s ss t)
    ∙ undoing_ends R n (undo_of N s) ss (undo_traced R N s ss t) (omega arith)
