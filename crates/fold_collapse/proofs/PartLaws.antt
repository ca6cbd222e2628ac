-- Records with some of their gates merged: what the loop over the readers has after so many gates. Assumes nothing.
use mathlib.Core.Path.{◌≡◌, refl, sym, ap, ap₂, ◌∙◌, subst}
use mathlib.Core.Bool.{true, false, cond}
use mathlib.Core.List.{map}
use mathlib.Core.Logic.{◌≢◌}
use Prim.Native.Nat.{ℕ, zero, suc, ◌+◌, ◌-◌, ◌≤◌, ◌<◌}
use native.Mathlib.Decide.{dec_lt}
use native.Mathlib.Omega.{arith}
use borrow.Author.Tests.{lt-ltb, le-ltb}
use lib.Dec.{T, ltb}
use lib.ListN.{length, get_or, set}
use Rattle.basics.specs.Lists.{range, tab, all}
use Rattle.basics.specs.TestLaws.{is_true, T_is}
use Rattle.basics.specs.ListLaws.{length_tab, get_or_tab, tab_same, below_at, at_below, all_tab}
use Rattle.network.specs.Threshold.{Gate, Net}
use Rattle.network.specs.Sound.{GateOk, GatesOk, Sound}
use Rattle.network.specs.LimitLaws.{of_has}
use Rattle.network.specs.Limits.{is_gate, keeps}
use Rattle.network.specs.SoundLaws.{sound_board}
use Rattle.network.specs.Record.{gate_of, net_of, layout, no_gate, nth_gate, sound_record, gate_record}
use Rattle.network.specs.Changes.{with_gates, without}
use Rattle.network.specs.Places.{SoundGate}
use Rattle.basics.specs.TableLaws.{tab_set}
use Rattle.network.specs.RecordLaws.{ArrayLengths, shaped_layout, net_of_layout, layout_net_of, count_gates, gate_within, gate_number, sound_net, sound_layout}
use Rattle.network_places.specs.Parts.{StoredIn}
use Rattle.network_places.specs.StoreLaws.{stored_record}
use Rattle.network.specs.declared.Network.{Network}
use Rattle.fold_theory.specs.Merge.{Edge, edge_of, reads, merged, narrow}
use Rattle.fold_theory.specs.Pair.{qualifies}
use Rattle.fold_theory.proofs.SoundLaws.{resized_sound}
use Rattle.pair_theory.specs.Alignments.{alignment_of, merged_of}
use Rattle.fold_reader_pairs.specs.declared.Pairs.{Pairs}
use Rattle.fold_readers.specs.Arrays.{SoundGates}
use Rattle.fold_readers.specs.ArrayLaws.{lent_of, lent_gate}
use Rattle.fold_edges.specs.Edges.{edge_at, ReadsIn}
use Rattle.fold_edges.specs.EdgeLaws.{joined_ok}
use Rattle.fold_merge.specs.AlignedLaws.{qualified_mergeable, merged_of_is}
use Rattle.fold_reader_pairs.specs.Collapsing.{edge_to, with_pair, pair_at, AllPairs, gates_with_pairs, collapsed_by}
use Rattle.fold_reader_pairs.specs.CollapsingLaws.{own_silent, Merges, pair_merges, with_pair_zero, with_pair_silent, with_pair_merged}
use Rattle.fold_reader_pairs.specs.CollapsingLaws.{gate_collapsed_ok, gate_collapsed_keeps}
use Rattle.fold_collapse.specs.Merging.{MergesIn}

-- ---- gates of which the first are new

-- gate g of them: new below done, old from there on
unfoldable pub mixed : (ℕ → Gate) → (ℕ → Gate) → ℕ → ℕ → Gate
mixed old new done g = cond (ltb g done) (new g) (old g)

module _ (old new : ℕ → Gate) where
  mixed_new : (done g : ℕ) → g < done → mixed old new done g ≡ new g
  unfolding mixed
  mixed_new done g h = rw (lt-ltb g done h)

  mixed_old : (done g : ℕ) → done ≤ g → mixed old new done g ≡ old g
  unfolding mixed
  mixed_old done g h = rw (le-ltb g done h)

  -- what holds of both
  mixed_case : (P : Gate → Type 0) (done g : ℕ) → P (new g) → P (old g) → P (mixed old new done g)
  unfolding mixed
  mixed_case P done g a b = elim (ltb g done) as (λ t. P (cond t (new g) (old g))) [ true ↦ a | false ↦ b ]

  mixed_none : (gates : ℕ) → tab gates (mixed old new 0) ≡ tab gates old
  mixed_none gates = tab_same gates (mixed old new 0) old λ g h. mixed_old 0 g (omega arith)

  mixed_all : (gates : ℕ) → tab gates (mixed old new gates) ≡ tab gates new
  mixed_all gates = tab_same gates (mixed old new gates) new λ g h. mixed_new gates g h

  -- one more
  mixed_next : (gates done : ℕ) → done < gates → tab gates (mixed old new (done + 1)) ≡ set (tab gates (mixed old new done)) done (new done)
  mixed_next gates done h =
      tab_set no_gate gates done (mixed old new (done + 1)) (mixed old new done) (new done) h (mixed_new (done + 1) done (omega arith)) λ g n.
      elim (dec_lt g done) as (λ t. mixed old new (done + 1) g ≡ mixed old new done g) [
        | yes k ↦ mixed_new (done + 1) g (omega arith) ∙ sym (mixed_new done g k)
        | no k ↦ mixed_old (done + 1) g (omega arith) ∙ sym (mixed_old done g (omega arith))
      ]

  mixed_same : (gates done : ℕ) → new done ≡ old done → tab gates (mixed old new (done + 1)) ≡ tab gates (mixed old new done)
  mixed_same gates done e = tab_same gates (mixed old new (done + 1)) (mixed old new done) λ g h.
      elim (dec_lt g done) as (λ t. mixed old new (done + 1) g ≡ mixed old new done g) [
        | yes k ↦ mixed_new (done + 1) g (omega arith) ∙ sym (mixed_new done g k)
        | no k ↦ elim (dec_lt done g) as (λ t. mixed old new (done + 1) g ≡ mixed old new done g) [
          | yes l ↦ mixed_old (done + 1) g (omega arith) ∙ sym (mixed_old done g (omega arith))
          | no l ↦ let i : g ≡ done = omega arith in mixed_new (done + 1) g (omega arith) ∙ rw i e ∙ sym (mixed_old done g (omega arith))
        ]
      ]

-- gates that are each within the limits
range_gates : (gate : ℕ → Gate) (n a m : ℕ) → ((g : ℕ) → a ≤ g → g < a + m → GateOk (n + g) (gate g)) → GatesOk (n + a) (map gate (range a m))
unfolding range
range_gates gate n a zero h = tt
range_gates gate n a (suc m) h = (
  h a (omega arith) (omega arith),
  subst (λ i. GatesOk i (map gate (range (suc a) m))) (let e : n + suc a ≡ suc (n + a) = omega arith in e)
      (range_gates gate n (suc a) m λ g k l. h g (omega arith) (omega arith)),
)

tab_gates : (gate : ℕ → Gate) (n m : ℕ) → ((g : ℕ) → g < m → GateOk (n + g) (gate g)) → GatesOk n (tab m gate)
tab_gates gate n m h = subst (λ i. GatesOk i (tab m gate)) (let e : n + 0 ≡ n = omega arith in e) (range_gates gate n 0 m λ g k l. h g (omega arith))

-- ---- a record after so many gates

-- the gate that gate g becomes
abbrev with_pair_in : Network → ℕ → Pairs → ℕ → Gate
with_pair_in r u p g = with_pair (edge_to r.board (gate_of r) r.inputs u g) (pair_at p g)

-- the network with its first gates merged
abbrev pub part_net : Network → ℕ → Pairs → ℕ → Net
part_net r u p done = with_gates (net_of r) (tab r.gates (mixed (gate_of r) (with_pair_in r u p) done))

module _ (r : Network) (u : ℕ) (p : Pairs) (s : SoundGate r u) (found : AllPairs r.board (gate_of r) r.inputs r.gates u p) where
  whole : Sound (net_of r)
  whole = sound_net r (T_is (sound_record r) s.sound)

  at : (r.inputs ≤ u) × (u - r.inputs < r.gates) × (r.gates ≤ 128)
  at = gate_number r u s

  old_ok : (g : ℕ) → g < r.gates → GateOk (r.inputs + g) (gate_of r g)
  old_ok g h = lent_gate (lent_of r (T_is (sound_record r) s.sound)) g h

  new_ok : (g : ℕ) → g < r.gates → GateOk (r.inputs + g) (with_pair_in r u p g)
  new_ok g h = gate_collapsed_ok (edge_to r.board (gate_of r) r.inputs u g) (pair_at p g) (found.each g h) (old_ok g h)

  old_keep : (g : ℕ) → g < r.gates → T (keeps r.board (gate_of r g))
  unfolding net_of
  old_keep g h = below_at r.gates (λ i. keeps r.board (gate_of r i)) (subst T (all_tab (keeps r.board) r.gates (gate_of r)) whole.all_keep) g h

  new_keep : (g : ℕ) → g < r.gates → T (keeps r.board (with_pair_in r u p g))
  new_keep g h = gate_collapsed_keeps (edge_to r.board (gate_of r) r.inputs u g) (pair_at p g) (found.each g h) (old_keep g h)

  -- some of the gates merged keep the margins
  mixed_keep : (done : ℕ) → T (all (keeps r.board) (tab r.gates (mixed (gate_of r) (with_pair_in r u p) done)))
  mixed_keep done =
      let gate = mixed (gate_of r) (with_pair_in r u p) done in
      subst T (sym (all_tab (keeps r.board) r.gates gate)) (at_below r.gates (λ i. keeps r.board (gate i)) λ g h.
      mixed_case (gate_of r) (with_pair_in r u p) (λ (y : Gate). T (keeps r.board y)) done g (new_keep g h) (old_keep g h))

  -- gate u stays as it is
  own_collapsed : with_pair_in r u p (u - r.inputs) ≡ gate_of r (u - r.inputs)
  own_collapsed =
      let g : ℕ = u - r.inputs in
      let ok : GateOk u (gate_of r g) = subst (λ i. GateOk i (gate_of r g)) (omega (arith, at)) (old_ok g at.1) in
      with_pair_silent (edge_to r.board (gate_of r) r.inputs u g) (pair_at p g) (found.each g at.1) (own_silent u (gate_of r g) ok)

  part_sound : (done : ℕ) → Sound (part_net r u p done)
  part_sound done =
      resized_sound (net_of r) (tab r.gates (mixed (gate_of r) (with_pair_in r u p) done))
      (length_tab r.gates (mixed (gate_of r) (with_pair_in r u p) done) ∙ sym (count_gates r))
      (tab_gates (mixed (gate_of r) (with_pair_in r u p) done) (net_of r).inputs r.gates
      (unfold net_of in λ g h. mixed_case (gate_of r) (with_pair_in r u p) (GateOk (r.inputs + g)) done g (new_ok g h) (old_ok g h)))
      (unfold net_of in mixed_keep done) whole

  -- at the start it is the record itself, at the end every gate is merged
  pub part_none : ArrayLengths r → r ≡ layout (part_net r u p 0)
  unfolding net_of
  part_none shape =
      sym (ap layout (ap (with_gates (net_of r)) (mixed_none (gate_of r) (with_pair_in r u p) r.gates)) ∙ layout_net_of r shape (T_is (sound_record r) s.sound))

  part_all : part_net r u p r.gates ≡ with_gates (net_of r) (gates_with_pairs r.board (gate_of r) r.inputs r.gates u p)
  part_all = ap (with_gates (net_of r)) (mixed_all (gate_of r) (with_pair_in r u p) r.gates)

  -- a gate whose k is 0
  pub part_same : (done : ℕ) → done < r.gates → get_or p.ks done 0 ≡ 0 → part_net r u p (done + 1) ≡ part_net r u p done
  part_same done h z =
      ap (with_gates (net_of r))
      (mixed_same (gate_of r) (with_pair_in r u p) r.gates done
      (with_pair_zero (edge_to r.board (gate_of r) r.inputs u done) (pair_at p done) (found.each done h) z))

  module _ (c : Network) (done : ℕ) (same : c ≡ layout (part_net r u p done)) where
    part_net_lem : net_of c ≡ part_net r u p done
    part_net_lem = ap net_of same ∙ net_of_layout (part_net r u p done) (part_sound done)

    part_record : sound_record c ≡ true
    part_record = ap sound_record same ∙ is_true (sound_record (layout (part_net r u p done))) (sound_layout (part_net r u p done) (part_sound done))

    pub part_shape : ArrayLengths c
    part_shape = subst ArrayLengths (sym same) (shaped_layout (part_net r u p done))

    part_board : c.board ≡ r.board
    unfolding net_of
    part_board = ap (λ (N : Net). N.board) part_net_lem

    part_inputs : c.inputs ≡ r.inputs
    unfolding net_of
    part_inputs = ap (λ (N : Net). N.inputs) part_net_lem

    pub part_gates : c.gates ≡ r.gates
    part_gates = sym (count_gates c) ∙ ap (λ (N : Net). length N.gates) part_net_lem ∙ length_tab r.gates (mixed (gate_of r) (with_pair_in r u p) done)

    part_gate : (g : ℕ) → g < r.gates → gate_of c g ≡ mixed (gate_of r) (with_pair_in r u p) done g
    part_gate g h =
        sym (gate_within c g (omega (arith, part_gates))) ∙ ap (λ (N : Net). nth_gate N.gates g) part_net_lem
        ∙ get_or_tab no_gate r.gates (mixed (gate_of r) (with_pair_in r u p) done) g h

    -- gate u is still one of its gates
    pub part_own : SoundGate c u
    unfolding net_of
    part_own = record {
      sound = part_record;
      gate = is_true (is_gate (net_of c) u) (of_has (net_of c) u (omega (arith, at, part_inputs, part_gates, count_gates c)));
    }

    -- after the last gate all that is left is to remove u
    pub part_left : done ≡ r.gates → layout (without (net_of c) u) ≡ layout (collapsed_by r u p)
    unfolding collapsed_by
    part_left e = ap (λ (N : Net). layout (without N u)) (part_net_lem ∙ ap (part_net r u p) e ∙ part_all)

    -- its gates, and gates u and done of them
    part_lent : SoundGates c
    part_lent = lent_of c (T_is (sound_record c) part_record)

    part_edge : done < r.gates → edge_at c u (c.inputs + done) ≡ edge_to r.board (gate_of r) r.inputs u done
    part_edge h = rw (part_board, part_inputs) (ap₂ (edge_of r.board u (r.inputs + done))
        (part_gate (u - r.inputs) at.1
        ∙ mixed_case (gate_of r) (with_pair_in r u p) (λ y. y ≡ gate_of r (u - r.inputs)) done (u - r.inputs) own_collapsed refl)
        (ap (gate_of c) (let e : r.inputs + done - r.inputs ≡ done = omega arith in e) ∙ part_gate done h
        ∙ mixed_old (gate_of r) (with_pair_in r u p) done done (omega arith)))

    module _ (within : done < r.gates) (reader : get_or p.ks done 0 ≢ 0) where
      -- gates u and done as they stand in the record, and as they were
      abbrev now_edge : Edge
      now_edge = edge_at c u (c.inputs + done)

      abbrev was_edge : Edge
      was_edge = edge_to r.board (gate_of r) r.inputs u done

      merging : Merges was_edge (pair_at p done)
      merging = pair_merges was_edge (pair_at p done) (found.each done within) reader

      part_joined : ReadsIn c u (c.inputs + done)
      part_joined = record {
        u_gate = (omega (arith, at, part_inputs), omega (arith, at, part_inputs, part_gates));
        v_gate = (omega arith, omega (arith, part_gates));
        joined = subst (λ (e : Edge). T (reads e.u e.gate_v)) (sym (part_edge within)) merging.reader;
      }

      part_narrow : T (narrow now_edge)
      part_narrow = subst (λ (e : Edge). T (narrow e)) (sym (part_edge within)) merging.few

      -- what a merge asks: the merged gate can be made
      pub part_merges : MergesIn c u done (get_or p.ks done 0) (get_or p.ls done 0)
      part_merges = record {
        lent = part_lent;
        joined = part_joined;
        board_ok_lem = sound_board c part_record;
        mergeable = qualified_mergeable now_edge (joined_ok part_lent part_joined (sound_board c part_record)) (pair_at p done).k (pair_at p done).l part_narrow
            (subst (λ (e : Edge). T (qualifies e (pair_at p done))) (sym (part_edge within)) merging.qualified);
        place = omega (arith, at);
      }

      -- it is what becomes of gate done
      part_made : gate_record (merged_of (alignment_of now_edge) (pair_at p done).k (pair_at p done).l) ≡ gate_record (with_pair_in r u p done)
      part_made =
          merged_of_is now_edge (joined_ok part_lent part_joined (sound_board c part_record)) (pair_at p done).k (pair_at p done).l part_narrow
          ∙ ap gate_record (ap (λ (e : Edge). merged e (get_or p.ks done 0) (get_or p.ls done 0)) (part_edge within)
          ∙ sym (with_pair_merged was_edge (pair_at p done) (found.each done within) reader))

      net_next : with_gates (net_of c) (set (net_of c).gates done (with_pair_in r u p done)) ≡ part_net r u p (done + 1)
      net_next = ap (λ (N : Net). with_gates N (set N.gates done (with_pair_in r u p done))) part_net_lem
          ∙ ap (with_gates (net_of r)) (sym (mixed_next (gate_of r) (with_pair_in r u p) r.gates done within))

      -- the record with the merged gate stored
      pub part_next : {c' : Network}
          → StoredIn done (gate_record (merged_of (alignment_of now_edge) (get_or p.ks done 0) (get_or p.ls done 0))) c c'
          → c' ≡ layout (part_net r u p (done + 1))
      part_next m =
          m.rest
          ∙ stored_record c done (with_pair_in r u p done) part_shape part_record (omega (arith, part_gates)) (rw part_made at m.arrays)
          ∙ ap layout net_next
