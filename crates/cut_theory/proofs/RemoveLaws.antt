-- The cut, gate by gate from the last one down: a gate of the cut stays; any other is read by nobody by then, and its removal is the
-- next step. So the cut of a sound network is sound and simulates the network with the one output. Assumes nothing.
use Rattle.std.specs.Prelude.{◌≡◌, refl, Bool, true, false, ◌≢◌, ℕ, zero, suc, ◌+◌, ◌-◌, ◌<◌, length, get_or}
use Rattle.std.proofs.Common.{sym, ◌∙◌}
use Rattle.std.proofs.Math.Path.{ap, subst}
use mathlib.Core.List.{List, [], ◌∷◌, map}
use Rattle.std.proofs.Math.Decide.{dec_lt}
use native.Mathlib.Omega.{arith}
use Rattle.std.proofs.Math.Dec.{T}
use Rattle.std.proofs.Math.ListN.{length-map}
use Rattle.basics.specs.Lists.{Each}
use Rattle.basics.specs.ListLaws.{each_has}
use Rattle.network.specs.Threshold.{Feed, Gate, Net}
use Rattle.network.specs.Limits.{signals_of}
use Rattle.network.specs.Record.{no_gate}
use Rattle.network.specs.Changes.{remade, lowered_gate, remove_at, without}
use Rattle.network.specs.Sound.{Has, Sound}
use Rattle.network.specs.LimitLaws.{gates_at}
use Rattle.network_equivalence.specs.Consistent.{Simulates}
use Rattle.network_equivalence.proofs.ConsistentLaws.{sim_refl, sim_trans}
use Rattle.fold_theory.specs.Merge.{silent, reads}
use Rattle.fold_theory.proofs.LowerLaws.{DoesNotRead, without_sim}
use Rattle.fold_theory.proofs.SoundLaws.{reader_above, without_sound}
use Rattle.cut_theory.specs.Cut.{picked, new_signal, renamed_feed, renamed_gate, cut_by, cut_marks, cut_net}
use Rattle.cut_theory.proofs.BelongLaws.{length_belongs, named_belongs, read_belongs}
use Rattle.cut_theory.proofs.PickLaws.{up_to, up_to_set, up_to_after, picked_each, picked_all, picked_many, picked_remove}
use Rattle.cut_theory.proofs.PickLaws.{new_low, new_high, new_lowered, new_all, map_lowered, renamed_map_same, remove_map}

-- N with one output
unfoldable pub alone : Net → ℕ → Net
alone N d = remade N N.gates (d ∷ [])

-- ---- by any marks, one for each gate
module _ (N : Net) (ms : List Bool) (d : ℕ) (long : length ms ≡ length N.gates) where
  -- all gates stay
  pub cut_all : cut_by N (up_to (length N.gates) ms) d ≡ alone N d
  unfolding cut_by alone
  cut_all =
      let e : (s : ℕ) → new_signal N.inputs (up_to (length N.gates) ms) s ≡ s = λ s. rw (← long) (new_all N.inputs ms s) in
      let all : picked (up_to (length N.gates) ms) N.gates ≡ N.gates =
      subst (λ (n : ℕ). picked (up_to n ms) N.gates ≡ N.gates) long (picked_all ms N.gates long) in
      λ x. record {
        board = N.board;
        inputs = N.inputs;
        gates = (ap (map (renamed_gate (new_signal N.inputs (up_to (length N.gates) ms)))) all
            ∙ renamed_map_same (new_signal N.inputs (up_to (length N.gates) ms)) e N.gates) x;
        outputs = e d x ∷ [];
      }

  -- gate g is left out too
  cut_without : (g : ℕ) → g < length N.gates → get_or ms g false ≡ false → without (cut_by N (up_to (suc g) ms) d) (N.inputs + g) ≡ cut_by N (up_to g ms) d
  unfolding cut_by without
  cut_without g h e =
      let u = N.inputs + g in
      let f = new_signal N.inputs (up_to (suc g) ms) in
      let fall = new_lowered N.inputs g ms (omega arith) e in
      let all = picked (up_to (suc g) ms) N.gates in
      λ x. record {
        board = N.board;
        inputs = N.inputs;
        gates = (ap (λ (i : ℕ). map (lowered_gate u) (remove_at i (map (renamed_gate f) all))) (let q : N.inputs + g - N.inputs ≡ g = omega arith in q)
            ∙ ap (map (lowered_gate u)) (remove_map (renamed_gate f) g all ∙ ap (map (renamed_gate f)) (picked_remove g ms N.gates (omega arith) e))
            ∙ map_lowered u f (new_signal N.inputs (up_to g ms)) fall (picked (up_to g ms) N.gates)) x;
        outputs = fall d x ∷ [];
      }

  -- it has a gate there
  cut_has : (g : ℕ) → g < length N.gates → Has (cut_by N (up_to (suc g) ms) d) (N.inputs + g)
  unfolding cut_by
  cut_has g h =
      let many = picked_many (suc g) ms N.gates (omega arith) (omega arith) in
      omega (arith, many, length-map (picked (up_to (suc g) ms) N.gates) (renamed_gate (new_signal N.inputs (up_to (suc g) ms))))

-- ---- who reads a gate that is left out
each_map : {A B : Type 0} (P : B → Type 0) (f : A → B) (xs : List A) → Each (λ x. P (f x)) xs → Each P (map f xs)
each_map P f [] h = tt
each_map P f (x ∷ xs) h = (h.0, each_map P f xs h.1)

free_feeds : (u : ℕ) (f : ℕ → ℕ) (fs : List Feed) → Each (λ s. f s ≢ u) (signals_of fs) → Each (λ s. s ≢ u) (signals_of (map (renamed_feed f) fs))
unfolding signals_of renamed_feed
free_feeds u f [] h = tt
free_feeds u f (x ∷ fs) h = (h.0, free_feeds u f fs h.1)

free_renamed : (u : ℕ) (f : ℕ → ℕ) (g : Gate) → ((s : ℕ) → T (reads s g) → f s ≢ u) → DoesNotRead u (renamed_gate f g)
unfolding renamed_gate reads silent
free_renamed u f g h = free_feeds u f g.feeds (each_has (λ s. f s ≢ u) (signals_of g.feeds) h)

-- only gate g's signal becomes g's
new_own : (n g : ℕ) (ms : List Bool) (s : ℕ) → new_signal n (up_to (suc g) ms) s ≡ n + g → s ≡ n + g
new_own n g ms s e = elim (dec_lt (n + g) s) as (λ d. s ≡ n + g) [
  | yes k ↦ absurd (let r = new_high n (suc g) ms s (omega arith) in omega (arith, r))
  | no k ↦ sym (new_low n (suc g) ms s (omega arith)) ∙ e
]

module _ (N : Net) (d : ℕ) (o : Sound N) (named : Has N d) where
  -- the marks of the cut
  abbrev marks : List Bool
  marks = cut_marks N d

  pub long_marks : length (cut_marks N d) ≡ length N.gates
  unfolding cut_marks
  long_marks = length_belongs d N.inputs N.gates

  off : {X : Type 0} (g : ℕ) → get_or marks g false ≡ false → T (get_or marks g false) → X
  off g e t = absurd (subst T e t)

  marked_output : T (get_or marks (d - N.inputs) false)
  unfolding cut_marks
  marked_output = named_belongs d N.inputs N.gates (d - N.inputs) (omega (arith, named)) (omega (arith, named))

  marked_read : (g i : ℕ) → i < length N.gates → T (get_or marks i false) → T (reads (N.inputs + g) (get_or N.gates i no_gate)) → T (get_or marks g false)
  unfolding cut_marks
  marked_read g i h t r =
      let above = reader_above (N.inputs + g) (N.inputs + i) (get_or N.gates i no_gate) (gates_at N.inputs i N.gates no_gate o.all_gates h) r in
      read_belongs d N.inputs N.gates g i (omega (arith, above)) h t r

  module _ (g : ℕ) (h : g < length N.gates) (e : get_or marks g false ≡ false) where
    abbrev f : ℕ → ℕ
    f = new_signal N.inputs (up_to (suc g) marks)

    -- no gate that is left reads it
    unread_gate : (i : ℕ) → i < length N.gates → T (get_or (up_to (suc g) marks) i false) → (s : ℕ) → T (reads s (get_or N.gates i no_gate))
        → f s ≢ N.inputs + g
    unread_gate i k t s r q =
        let same = new_own N.inputs g marks s q in
        let r' = subst (λ (x : ℕ). T (reads x (get_or N.gates i no_gate))) same r in
        let above = reader_above (N.inputs + g) (N.inputs + i) (get_or N.gates i no_gate) (gates_at N.inputs i N.gates no_gate o.all_gates k) r' in
        off g e (marked_read g i k (subst T (up_to_after (suc g) marks i (omega (arith, above))) t) r')

    cut_free : Each (DoesNotRead (N.inputs + g)) (cut_by N (up_to (suc g) (cut_marks N d)) d).gates
    unfolding cut_by
    cut_free = each_map (DoesNotRead (N.inputs + g)) (renamed_gate f) (picked (up_to (suc g) marks) N.gates)
        (picked_each (λ x. DoesNotRead (N.inputs + g) (renamed_gate f x)) no_gate (up_to (suc g) marks) N.gates
        (λ i k t. free_renamed (N.inputs + g) f (get_or N.gates i no_gate) (unread_gate i k t)))

    -- nor does the output
    cut_silent : Each (λ s. s ≢ N.inputs + g) (cut_by N (up_to (suc g) (cut_marks N d)) d).outputs
    unfolding cut_by
    cut_silent = (
      (λ q.
          let same = new_own N.inputs g marks d q in
          off g e (subst (λ (k : ℕ). T (get_or marks k false)) (let p : d - N.inputs ≡ g = omega (arith, same) in p) marked_output)),
      tt,
    )

  -- ---- step by step
  -- what is left when all gates from g on were looked at
  record Left (g : ℕ) : Type 0 where
    sound : Sound (cut_by N (up_to g (cut_marks N d)) d)
    sim : Simulates (alone N d) (cut_by N (up_to g (cut_marks N d)) d)

  pub alone_sound : Sound (alone N d)
  unfolding alone
  alone_sound = record {
    board_ok_lem = o.board_ok_lem;
    few_inputs = o.few_inputs;
    few_gates = o.few_gates;
    few_outputs = omega arith;
    all_gates = o.all_gates;
    all_keep = o.all_keep;
    all_outputs = (named, tt);
  }

  left_all : Left (length N.gates)
  left_all =
      let e = sym (cut_all N marks d long_marks) in
      record { sound = subst Sound e alone_sound; sim = subst (Simulates (alone N d)) e (sim_refl (alone N d)) }

  left_out : (g : ℕ) → g < length N.gates → get_or (cut_marks N d) g false ≡ false → Left (suc g) → Left g
  left_out g h e l =
      let q = cut_without N marks d long_marks g h e in
      let has = cut_has N marks d long_marks g h in
      let all = cut_by N (up_to (suc g) marks) d in
      record {
        sound = subst Sound q (without_sound all (N.inputs + g) has (cut_free g h e) (cut_silent g h e) l.sound);
        sim = subst (Simulates (alone N d)) q (sim_trans l.sim (without_sim all (N.inputs + g) has (cut_free g h e) (cut_silent g h e)));
      }

  left_in : (g : ℕ) → get_or (cut_marks N d) g false ≡ true → Left (suc g) → Left g
  left_in g e l =
      let q = ap (λ (x : List Bool). cut_by N x d) (up_to_set g marks e) in
      record { sound = subst Sound q l.sound; sim = subst (Simulates (alone N d)) q l.sim }

  left_step : (g : ℕ) → g < length N.gates → Left (suc g) → Left g
  left_step g h l = elim (get_or (cut_marks N d) g false) as (λ b. get_or (cut_marks N d) g false ≡ b → Left g) [
    | true ↦ λ e. left_in g e l
    | false ↦ λ e. left_out g h e l
  ] refl

  left_at : (k g : ℕ) → g + k ≡ length N.gates → Left g
  left_at zero g e = subst Left (omega arith) left_all
  left_at (suc k) g e = left_step g (omega arith) (left_at k (suc g) (omega arith))

  -- ---- the cut itself
  abbrev whole : Left 0
  whole = left_at (length N.gates) 0 (omega arith)

  pub cut_sound : Sound (cut_net N d)
  unfolding cut_net up_to
  cut_sound = whole.sound

  pub cut_sim : Simulates (alone N d) (cut_net N d)
  unfolding cut_net up_to
  cut_sim = whole.sim
