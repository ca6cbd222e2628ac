-- One step of a sound record taken back: what the tests say, and the record of the network before it. Assumes nothing.
use Rattle.std.specs.Prelude.{◌≡◌, Bool, true, false, cond, ◌&&◌, ◌||◌, List, map, ℕ, ◌+◌, ◌-◌, ◌≤◌, ◌<◌, T, leb, ltb, eqb, length, set}
use Rattle.std.proofs.Common.{sym, ap, ◌∙◌, subst, arith, ltb-false, leb→le, le→leb, ltb→lt, eqb→eq, length-set, get_or-set_same, get_or-set_other}
use Rattle.std.proofs.Math.Decide.{ℕ_discrete, dec_lt}
use Rattle.std.proofs.lemmas.Bool.{eqb-false}
use Rattle.std.proofs.lemmas.List.{length-map}
use Rattle.basics.specs.TestLaws.{is_true, T_is, T_and, and_T, and_true, or_case, or_false, refuted}
use Rattle.basics.specs.TableLaws.{get_d_map}
use Rattle.network.specs.Threshold.{Gate, Net}
use Rattle.network.specs.Limits.{is_gate, sound, gate_signal}
use Rattle.network.specs.Record.{net_of, layout, no_gate, nth_gate, spare_clear, sound_record}
use Rattle.network.specs.Changes.{with_gate, raised, raised_gate, raised_feed, insert_at, inserted}
use Rattle.network.specs.Sound.{Sound}
use Rattle.network.specs.LimitLaws.{sound_of, has_of, gates_at}
use Rattle.network.specs.SpareLaws.{of_spare}
use Rattle.network.specs.RecordLaws.{FitsRecord, sound_room, net_of_room, spare_layout, sound_net, count_gates, gate_signal_lem}
use Rattle.network.specs.declared.Network.{Network}
use Rattle.call_theory.specs.Steps.{Step, merging, dropping, old_gate, undo_of, placed, undoable}
use Rattle.network_insertion.specs.InsertLaws.{length_insert, insert_here, insert_each}
use Rattle.call_restoring.specs.TakenBack.{back_to}

-- ---- a record with room for a network is sound where the network is
layout_sound : (M : Net) → FitsRecord M → sound_record (layout M) ≡ sound M
unfolding sound_record
layout_sound M r =
    ap (λ (b : Bool). sound (net_of (layout M)) && b) (is_true (spare_clear (layout M)) (of_spare (layout M) (spare_layout M)))
    ∙ and_true (sound (net_of (layout M))) ∙ ap sound (net_of_room M r)

-- ---- the network with a gate of at most 16 feeds has room
abbrev FewFeeds : Gate → Type 0
FewFeeds g = length g.feeds ≤ 16

room_with : (N : Net) (v : ℕ) (g : Gate) → Sound N → FewFeeds g → FitsRecord (with_gate N v g)
unfolding with_gate
room_with N v g s few =
    let room = sound_room N s in
    let i : ℕ = v - N.inputs in
    let long = length-set N.gates i g in
    record {
      few_gates = omega (arith, room.few_gates, long);
      few_outputs = room.few_outputs;
      few_feeds = λ h k. elim (ℕ_discrete h i) as (λ d. FewFeeds (nth_gate (set N.gates i g) h)) [
        | yes e ↦
            let here = get_or-set_same N.gates i g no_gate (omega (arith, long)) in
            subst FewFeeds (sym (ap (nth_gate (set N.gates i g)) e ∙ here)) few
        | no e ↦ subst FewFeeds (sym (get_or-set_other N.gates i h g no_gate e)) (room.few_feeds h (omega (arith, long)))
      ];
    }

raised_few : (u : ℕ) (g : Gate) → FewFeeds g → FewFeeds (raised_gate u g)
unfolding raised_gate
raised_few u g h = omega (arith, length-map g.feeds (raised_feed u))

room_inserted : (N : Net) (u : ℕ) (g : Gate) → Sound N → length N.gates < 128 → FewFeeds g → FitsRecord (inserted N u g)
unfolding inserted
room_inserted N u g s more few =
    let room = sound_room N s in
    let i : ℕ = u - N.inputs in
    let gs : List Gate = map (raised_gate u) N.gates in
    let long = length-map N.gates (raised_gate u) in
    record {
      few_gates = omega (arith, length_insert no_gate g i gs, long);
      few_outputs = omega (arith, room.few_outputs, length-map N.outputs (raised u));
      few_feeds = insert_each FewFeeds no_gate g i gs few λ h k.
          subst FewFeeds (sym (get_d_map (raised_gate u) N.gates h no_gate no_gate (omega (arith, long))))
          (raised_few u (nth_gate N.gates h) (room.few_feeds h (omega (arith, long))));
    }

-- ---- a step whose gate has more than 16 feeds leaves an unsound network
with_few : (N : Net) (v : ℕ) (g : Gate) → T (is_gate N v) → T (sound (with_gate N v g)) → FewFeeds g
unfolding with_gate
with_few N v g p t =
    let h = has_of N v p in
    let i : ℕ = v - N.inputs in
    let gates = (sound_of (with_gate N v g) t).all_gates in
    subst FewFeeds (get_or-set_same N.gates i g no_gate (omega (arith, h)))
    (gates_at N.inputs i (set N.gates i g) no_gate gates (omega (arith, h, length-set N.gates i g))).few

inserted_few : (N : Net) (u : ℕ) (g : Gate) → u - N.inputs ≤ length N.gates → T (sound (inserted N u g)) → FewFeeds g
unfolding inserted
inserted_few N u g l t =
    let i : ℕ = u - N.inputs in
    let gs : List Gate = map (raised_gate u) N.gates in
    let long = length-map N.gates (raised_gate u) in
    let gates = (sound_of (inserted N u g) t).all_gates in
    subst FewFeeds (insert_here no_gate g i gs (omega (arith, long)))
    (gates_at N.inputs i (insert_at i g gs) no_gate gates (omega (arith, long, length_insert no_gate g i gs))).few

-- a drop's place, from its test
place_of : (N : Net) (u : ℕ) (g : Gate) → T (placed N (dropping u g)) → (N.inputs ≤ u) × (u ≤ N.inputs + length N.gates)
unfolding placed
place_of N u g t =
    let p = T_and (leb N.inputs u) (leb u (N.inputs + length N.gates)) t in
    (leb→le N.inputs u p.0, leb→le u (N.inputs + length N.gates) p.1)

undoable_few : (N : Net) (s : Step) → T (undoable N s) → FewFeeds (old_gate s)
unfolding undoable placed undo_of old_gate
undoable_few N (merging v g) t = let h = T_and (is_gate N v) (sound (with_gate N v g)) t in with_few N v g h.0 h.1
undoable_few N (dropping u g) t =
    let h = T_and (placed N (dropping u g)) (sound (inserted N u g)) t in
    let p = place_of N u g h.0 in
    inserted_few N u g (omega (arith, p)) h.1

pub too_wide : (N : Net) (s : Step) → 16 < length (old_gate s).feeds → undoable N s ≡ false
too_wide N s h = refuted (undoable N s) λ t. let k = undoable_few N s t in omega arith

-- ---- the tests as the code makes them

-- a step that has no place
not_placed : (N : Net) (s : Step) → placed N s ≡ false → undoable N s ≡ false
unfolding undoable
not_placed N s e = rw e

pub no_gate_lem : (n : Network) (v : ℕ) (g : Gate) → gate_signal n.inputs n.gates v ≡ false → undoable (net_of n) (merging v g) ≡ false
unfolding placed
no_gate_lem n v g e = not_placed (net_of n) (merging v g) (gate_signal_lem n v ∙ e)

-- no place among the gates
pub no_place : (n : Network) (u : ℕ) (g : Gate) → (n.inputs ≤ u → u ≤ n.inputs + n.gates → ⊥) → undoable (net_of n) (dropping u g) ≡ false
unfolding net_of
no_place n u g h = not_placed (net_of n) (dropping u g) (refuted (placed (net_of n) (dropping u g)) λ t.
    let p = place_of (net_of n) u g t in
    h p.0 (omega (arith, p.1, count_gates n)))

-- 128 gates, and one more
pub no_room : (n : Network) (u : ℕ) (g : Gate) → n.gates ≡ 128 → undoable (net_of n) (dropping u g) ≡ false
unfolding undoable undo_of inserted
no_room n u g e =
    let N = net_of n in
    let gs : List Gate = map (raised_gate u) N.gates in
    refuted (undoable N (dropping u g)) λ t.
    let few = (sound_of (inserted N u g) (T_and (placed N (dropping u g)) (sound (inserted N u g)) t).1).few_gates in
    omega (arith, few, length_insert no_gate g (u - N.inputs) gs, length-map N.gates (raised_gate u), count_gates n)

-- the three tests of a drop's place
abbrev out_of_place : Network → ℕ → Bool
out_of_place n u = ltb u n.inputs || ltb (n.inputs + n.gates) u || eqb n.gates 128

pub undoable_outside : (n : Network) (u : ℕ) (g : Gate) → out_of_place n u ≡ true → undoable (net_of n) (dropping u g) ≡ false
undoable_outside n u g e = or_case (ltb u n.inputs || ltb (n.inputs + n.gates) u) (eqb n.gates 128) (T_is _ e)
    (λ t. or_case (ltb u n.inputs) (ltb (n.inputs + n.gates) u) t
    (λ a. no_place n u g (λ h k. let l = ltb→lt u n.inputs a in omega arith))
    (λ b. no_place n u g (λ h k. let l = ltb→lt (n.inputs + n.gates) u b in omega arith)))
    (λ c. no_room n u g (eqb→eq n.gates 128 c))

pub inside : (n : Network) (u : ℕ) → n.gates ≤ 128 → out_of_place n u ≡ false → (n.inputs ≤ u) × (u ≤ n.inputs + n.gates) × (n.gates < 128)
inside n u few e =
    let a = or_false (ltb u n.inputs || ltb (n.inputs + n.gates) u) (eqb n.gates 128) e in
    let b = or_false (ltb u n.inputs) (ltb (n.inputs + n.gates) u) a.0 in
    let less : n.gates < 128 = elim (dec_lt n.gates 128) as (λ d. n.gates < 128) [
      | yes k ↦ k
      | no k ↦ absurd (eqb-false n.gates 128 a.1 (omega arith))
    ] in
    (ltb-false u n.inputs b.0, ltb-false (n.inputs + n.gates) u b.1, less)

-- ---- the networks

-- a result, if it is sound, or else the network that came in
abbrev sound_or : Network → Network → Network
sound_or r n = cond (sound_record r) r n

pub picked_no : (r n : Network) → sound_record r ≡ false → n ≡ sound_or r n
picked_no r n e = rw e

pub picked_yes : (r n : Network) → sound_record r ≡ true → r ≡ sound_or r n
picked_yes r n e = rw e

-- a step that cannot be taken back
pub back_no : (n : Network) (s : Step) → undoable (net_of n) s ≡ false → n ≡ back_to n s
unfolding back_to
back_no n s e = rw e

-- whether a result is sound, and the network that is left, are those of the step taken back
module _ (n : Network) (s : Step) (r : Network) (p : placed (net_of n) s ≡ true) (room : FitsRecord (undo_of (net_of n) s))
    (e : r ≡ layout (undo_of (net_of n) s)) where
  undoable_yes : sound_record r ≡ undoable (net_of n) s
  unfolding undoable
  undoable_yes = ap sound_record e ∙ layout_sound (undo_of (net_of n) s) room ∙ sym (ap (λ (b : Bool). b && sound (undo_of (net_of n) s)) p)

  back_yes : sound_or r n ≡ back_to n s
  unfolding back_to
  back_yes = ap (λ (b : Bool). cond b r n) undoable_yes ∙ ap (λ (x : Network). cond (undoable (net_of n) s) x n) e

-- a merge taken back
pub back_merge : (n : Network) (v : ℕ) (g : Gate) (r : Network) → sound_record n ≡ true → gate_signal n.inputs n.gates v ≡ true
    → FewFeeds g → r ≡ layout (with_gate (net_of n) v g)
    → (sound_record r ≡ undoable (net_of n) (merging v g)) × (sound_or r n ≡ back_to n (merging v g))
unfolding placed undo_of
back_merge n v g r s k few e =
    let placed_is = gate_signal_lem n v ∙ k in
    let room = room_with (net_of n) v g (sound_net n (T_is (sound_record n) s)) few in
    (undoable_yes n (merging v g) r placed_is room e, back_yes n (merging v g) r placed_is room e)

-- a drop taken back
pub back_drop : (n : Network) (u : ℕ) (g : Gate) (r : Network) → sound_record n ≡ true
    → (n.inputs ≤ u) × (u ≤ n.inputs + n.gates) × (n.gates < 128)
    → FewFeeds g → r ≡ layout (inserted (net_of n) u g)
    → (sound_record r ≡ undoable (net_of n) (dropping u g)) × (sound_or r n ≡ back_to n (dropping u g))
unfolding placed undo_of net_of
back_drop n u g r s p few e =
    let N = net_of n in
    let count = count_gates n in
    let place = and_T (leb N.inputs u) (leb u (N.inputs + length N.gates))
    (le→leb N.inputs u p.0) (le→leb u (N.inputs + length N.gates) (omega (arith, p, count))) in
    let placed_is = is_true (placed N (dropping u g)) place in
    let room = room_inserted N u g (sound_net n (T_is (sound_record n) s)) (omega (arith, p, count)) few in
    (undoable_yes n (dropping u g) r placed_is room e, back_yes n (dropping u g) r placed_is room e)

-- a step that can be taken back
pub back_network : (n : Network) (s : Step) → undoable (net_of n) s ≡ true → back_to n s ≡ layout (undo_of (net_of n) s)
unfolding back_to
back_network n s e = rw e
