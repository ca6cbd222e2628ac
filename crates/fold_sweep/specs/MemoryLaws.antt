-- What a sweep remembers is true of its network: at first nothing, then one gate more with its refuser, and what is left after a collapse.
-- Assumes nothing.
use Rattle.std.specs.Prelude.{◌≡◌, List, ℕ, ◌+◌, ◌≤◌, ◌<◌, length, set, replicate}
use Rattle.std.proofs.Common.{sym, ◌∙◌, arith}
use Rattle.std.proofs.Math.Path.{subst}
use Rattle.std.proofs.Math.Dec.{T}
use Rattle.std.proofs.Math.ListN.{get_or, length-set}
use Rattle.std.proofs.lemmas.List.{length-replicate, get_or-replicate}
use Rattle.basics.specs.TestLaws.{T_is}
use Rattle.basics.specs.RefusalLaws.{Refused}
use Rattle.network.specs.Threshold.{Net}
use Rattle.network.specs.Sound.{Has}
use Rattle.network.specs.Record.{gate_of, net_of}
use Rattle.network.specs.RecordLaws.{count_gates, gate_number}
use Rattle.network.specs.Places.{SoundGate}
use Rattle.network.specs.Changes.{gate_at, raised}
use Rattle.network.specs.ChangeLaws.{raised_near, raised_other, lowered_raised, lowered_shift}
use Rattle.network.specs.declared.Network.{Network}
use Rattle.fold_theory.specs.Merge.{Edge, edge, silent, reads}
use Rattle.fold_theory.specs.Pair.{pair_of}
use Rattle.fold_theory.proofs.LowerLaws.{DoesNotRead, silent_free}
use Rattle.fold_theory.proofs.StepLaws.{collapse_kept}
use Rattle.fold_unchanged.specs.Unchanged.{RefusedBy}
use Rattle.fold_unchanged.proofs.UnchangedLaws.{collapse_inputs, refusal_stands}
use Rattle.fold_reader_pairs.specs.Collapsing.{edge_to, pair_at, AllPairs, ReaderRefuses, collapsed_by}
use Rattle.fold_reader_pairs.specs.CollapsingLaws.{pair_zero, pair_refused, edge_to_net}
use Rattle.fold_reader_pairs.specs.declared.Pairs.{Pairs}
use Rattle.fold_reader_pairs.specs.declared.Refuser.{Refuser}
use Rattle.refusals.specs.Numbers.{number_of}
use Rattle.fold_sweep.specs.Sweeping.{NextCollapse}
use Rattle.fold_memory.specs.Keeping.{RefusersKept}
use Rattle.fold_memory.specs.KeepingLaws.{at_set}
use Rattle.fold_sweep.specs.Memory.{Remembered}

-- ---- at first nothing is known
pub remembered_none : (N : Net) → length N.gates ≤ 128 → Remembered N (replicate 128 128)
remembered_none N few = record {
  long = length-replicate {A = ℕ} 128 128;
  each = λ g h l. absurd (omega (arith, l, get_or-replicate {A = ℕ} 128 g 128 0 (omega arith)));
}

-- ---- what is remembered of gate g of a record
module _ (r : Network) {refusers : List ℕ} (m : Remembered (net_of r) refusers) (g : ℕ) where
  -- it is known to be refused
  pub remembered_at : g < r.gates → get_or refusers g 0 < 128 → RefusedBy (net_of r) (r.inputs + g) (r.inputs + get_or refusers g 0)
  unfolding net_of
  remembered_at h l = m.each g (omega (arith, count_gates r)) l

  -- its refuser was found
  pub remembered_more : (v : ℕ) → g < 128 → RefusedBy (net_of r) (r.inputs + g) (r.inputs + v) → Remembered (net_of r) (set refusers g v)
  unfolding net_of
  remembered_more v h x = record {
    long = length-set refusers g v ∙ m.long;
    each = λ i k. at_set (λ y. y < 128 → RefusedBy (net_of r) (r.inputs + i) (r.inputs + y)) refusers g i v (omega (arith, m.long))
        (λ e l. rw e x) (λ n. m.each i k);
  }

-- ---- gate u of a sound record
module _ (r : Network) (u : ℕ) (own : SoundGate r u) where
  -- the reader whose pair is refused refuses it
  pub refused_of : (p : Refuser) → ReaderRefuses r.board (gate_of r) r.inputs r.gates u p → RefusedBy (net_of r) u (r.inputs + p.reader)
  unfolding net_of edge
  refused_of p x =
      let same = edge_to_net r u own p.reader x.within in
      let f = pair_refused (edge_to r.board (gate_of r) r.inputs u p.reader) (number_of p.refusal) x.refusal_is in
      record {
        gate = omega (arith, gate_number r u own, count_gates r);
        reader = omega (arith, x.within, count_gates r);
        joined = subst (λ (e : Edge). T (reads e.u e.gate_v)) same f.0;
        refusal = subst (λ (e : Edge). Refused (pair_of e)) same (subst Refused (sym f.1) tt);
      }

  -- a gate whose k is 0 does not read it
  silent_gate : (p : Pairs) → AllPairs r.board (gate_of r) r.inputs r.gates u p → (w : ℕ) → Has (net_of r) (r.inputs + w) → get_or p.ks w 0 ≡ 0
      → DoesNotRead u (gate_at (net_of r) (r.inputs + w))
  unfolding net_of edge
  silent_gate p all w h z =
      let l : w < r.gates = omega (arith, count_gates r, h) in
      let e = edge_to r.board (gate_of r) r.inputs u w in
      silent_free u (gate_at (net_of r) (r.inputs + w))
      (subst (λ (e : Edge). T (silent e.u e.gate_v)) (edge_to_net r u own w l) (T_is (silent u e.gate_v) (pair_zero e (pair_at p w) (all.each w l) z)))

-- ---- after a collapse of gate g
module _ (r : Network) (b g : ℕ) (p : Pairs) (n : NextCollapse r b (r.inputs + g) p) {refusers left : List ℕ} (m : Remembered (net_of r) refusers)
    (k : RefusersKept refusers p.ks g 127 left) where
  abbrev u : ℕ
  u = r.inputs + g

  abbrev after : Net
  after = collapsed_by r u p

  kept_each : (i : ℕ) → i < length after.gates → get_or left i 0 < 128 → RefusedBy after (r.inputs + i) (r.inputs + get_or left i 0)
  kept_each i h l =
      let few = (collapse_kept (net_of r) u after n.collapsed).fewer in
      let at = gate_number r u n.own in
      let s = k.each i (omega (arith, few, at, count_gates r)) l in
      let w = raised g i in
      let v = get_or refusers w 0 in
      let old = remembered_at r m w (omega (arith, few, count_gates r, raised_near g i)) s.known in
      let stands = refusal_stands (net_of r) u after n.collapsed (r.inputs + w) (r.inputs + v) old
      (λ e. raised_other g i (omega (arith, e))) (λ e. s.other_gate (omega (arith, e)))
      (silent_gate r u n.own p n.pairs w old.gate s.gate_silent)
      (silent_gate r u n.own p n.pairs v old.reader s.reader_silent) in
      rw (lowered_shift r.inputs g w, lowered_raised g i, lowered_shift r.inputs g v, ← s.moved) at stands

  pub remembered_after : Remembered after left
  unfolding net_of
  remembered_after = record {
    long = k.long;
    each = λ i h l. subst (λ (x : ℕ). RefusedBy after (x + i) (x + get_or left i 0)) (sym (collapse_inputs (net_of r) u after n.collapsed)) (kept_each i h l);
  }
