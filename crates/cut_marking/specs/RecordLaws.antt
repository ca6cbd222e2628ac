-- The arrays of a sound record, and the gates that one of its gates needs: the marked ones are those of the cut. Assumes nothing.
use Rattle.std.specs.Prelude.{◌≡◌, Bool, true, false, not, ◌&&◌, List, [], ◌∷◌, ℕ, zero, suc, ◌+◌, ◌*◌, ◌-◌, ◌≤◌, ◌<◌, eqb, length}
use Rattle.std.proofs.Math.Path.{sym, ap, subst}
use Rattle.std.proofs.Common.{◌∙◌, eqb→eq}
use native.Mathlib.Omega.{arith}
use Rattle.std.proofs.Math.Dec.{T, eqb_refl}
use Rattle.std.proofs.Math.ListN.{get_or, length-map}
use Rattle.basics.specs.Lists.{all, other, Each}
use Rattle.basics.specs.ListLaws.{each_get_or}
use Rattle.basics.specs.TableLaws.{get_d_map}
use Rattle.basics.specs.TestLaws.{is_true, T_is, test_same}
use Rattle.network.specs.Threshold.{Feed, Gate}
use Rattle.network.specs.Limits.{signals_of}
use Rattle.network.specs.Record.{feed_at, gate_from, gate_of, net_of, no_feed, no_gate, nth_gate, sound_record}
use Rattle.network.specs.Changes.{gate_at}
use Rattle.network.specs.Sound.{Has, Sound}
use Rattle.network.specs.LimitLaws.{has_of, of_has, gates_at, rise_below}
use Rattle.network.specs.PlaceLaws.{length_gate_from, feeds_at}
use Rattle.network.specs.RecordLaws.{sound_net, count_gates, gate_within}
use Rattle.network.specs.SoundLaws.{sized_of}
use Rattle.network.specs.declared.Network.{Network}
use Rattle.fold_theory.specs.Merge.{silent, reads}
use Rattle.cut_theory.specs.Cut.{Reached, start, next, Behind, InCut, cut_marks}
use Rattle.cut_theory.proofs.BelongLaws.{belongs_exact}
use Rattle.cut_marking.specs.Marking.{Wired, BehindFeed, Needed}

-- ---- a signal in a list
-- where it stands
has_at : (s : ℕ) (ss : List ℕ) → T (not (all (other s) ss)) → (i : ℕ) × (i < length ss) × (get_or ss i 0 ≡ s)
unfolding all other
has_at s [] t = absurd t
has_at s (x ∷ ss) t = elim (eqb x s) as (λ b. (T b → x ≡ s) → T (not (not b && all (other s) ss)) → (i : ℕ) × (i < length (x ∷ ss)) × (get_or (x ∷ ss) i 0 ≡ s)) [
  | true ↦ λ e t. (0, omega arith, e tt)
  | false ↦ λ e t. let r = has_at s ss t in (suc r.0, omega (arith, r.1), r.2)
] (eqb→eq x s) t

at_has : (s : ℕ) (ss : List ℕ) (i : ℕ) → i < length ss → get_or ss i 0 ≡ s → T (not (all (other s) ss))
unfolding all other
at_has s [] i h e = absurd (omega arith)
at_has s (x ∷ ss) zero h e = rw (is_true (eqb x s) (subst (λ (y : ℕ). T (eqb x y)) e (eqb_refl x))) tt
at_has s (x ∷ ss) (suc i) h e = elim (eqb x s) as (λ b. T (not (not b && all (other s) ss))) [ true ↦ tt | false ↦ at_has s ss i (omega arith) e ]

module _ (r : Network) (whole : sound_record r ≡ true) where
  net_sound : Sound (net_of r)
  net_sound = sound_net r (T_is (sound_record r) whole)

  -- the signals that gate g reads, place by place
  feed_count : (g : ℕ) → length (signals_of (gate_of r g).feeds) ≡ get_or r.fanins g 0
  unfolding signals_of
  feed_count g = length-map (gate_of r g).feeds (λ f. f.signal) ∙ length_gate_from r.fanins r.thresholds r.signals r.weights g

  feed_signal : (g i : ℕ) → i < get_or r.fanins g 0 → get_or (signals_of (gate_of r g).feeds) i 0 ≡ get_or r.signals (16 * g + i) 0
  unfolding signals_of gate_from feed_at
  feed_signal g i h =
      let l = length_gate_from r.fanins r.thresholds r.signals r.weights g in
      get_d_map (λ (f : Feed). f.signal) (gate_of r g).feeds i no_feed 0 (omega (arith, l))
      ∙ ap (λ (f : Feed). f.signal) (feeds_at r.signals r.weights (16 * g) (get_or r.fanins g 0) i h)

  -- the arrays of a sound record
  pub wired_sound : Wired r.fanins r.signals r.inputs r.gates
  unfolding net_of
  wired_sound = record {
    few_feeds = (sized_of r whole).few_feeds;
    feeds_below = λ g i h k.
        let l = count_gates r in
        let rise = (gates_at r.inputs g (net_of r).gates no_gate net_sound.all_gates (omega (arith, l))).rise in
        let ok = subst (λ (x : Gate). Each (λ s. s < r.inputs + g) (signals_of x.feeds)) (gate_within r g h)
        (rise_below 0 (r.inputs + g) (signals_of (nth_gate (net_of r).gates g).feeds) rise) in
        let c = feed_count g in
        let below = each_get_or (λ s. s < r.inputs + g) (signals_of (gate_of r g).feeds) 0 ok i (omega (arith, c)) in
        let e = feed_signal g i k in
        omega (arith, below, e);
  }

  -- ---- the gates behind the feeds, in the arrays and in the network
  gate_named : (v : ℕ) → v < r.gates → gate_at (net_of r) (r.inputs + v) ≡ gate_of r v
  unfolding gate_at net_of
  gate_named v h = ap (λ (k : ℕ). get_or (net_of r).gates k no_gate) (let e : r.inputs + v - r.inputs ≡ v = omega arith in e) ∙ gate_within r v h

  behind_net : (v s : ℕ) → v < r.gates → BehindFeed r.fanins r.signals r.inputs v s
      → (s < r.gates) × Behind (net_of r) (r.inputs + v) (r.inputs + s)
  unfolding reads silent net_of
  behind_net v s h b =
      let below = wired_sound.feeds_below v b.feed h b.used in
      let there = b.there in
      let l = count_gates r in
      let c = feed_count v in
      let low : s < r.gates = omega (arith, below, there) in (
        low,
        record {
          read = subst (λ (x : Gate). T (reads (r.inputs + s) x)) (sym (gate_named v h))
              (at_has (r.inputs + s) (signals_of (gate_of r v).feeds) b.feed (omega (arith, c, b.used)) (feed_signal v b.feed b.used ∙ there));
          gate = of_has (net_of r) (r.inputs + s) (omega (arith, l));
        },
      )

  net_behind : (v s : ℕ) → v < r.gates → r.inputs ≤ s → T (reads s (gate_at (net_of r) (r.inputs + v)))
      → BehindFeed r.fanins r.signals r.inputs v (s - r.inputs)
  unfolding reads silent
  net_behind v s h low t =
      let a = has_at s (signals_of (gate_of r v).feeds) (subst (λ (x : Gate). T (reads s x)) (gate_named v h) t) in
      let c = feed_count v in
      let used : a.0 < get_or r.fanins v 0 = omega (arith, a.1, c) in
      record { feed = a.0; used = used; there = sym (feed_signal v a.0 used) ∙ a.2 ∙ omega arith }

  -- ---- all that gate g needs
  module _ (g : ℕ) (h : g < r.gates) where
    needed_cut : (s : ℕ) → Reached (BehindFeed r.fanins r.signals r.inputs) g s → (s < r.gates) × InCut (net_of r) (r.inputs + g) (r.inputs + s)
    needed_cut s (start e) = (omega arith, start (ap (λ (k : ℕ). r.inputs + k) e))
    needed_cut s (next {v} p b) =
        let k = needed_cut v p in
        let n = behind_net v s k.0 b in
        (n.0, next k.1 n.1)

    cut_needed : (s : ℕ) → InCut (net_of r) (r.inputs + g) s → Has (net_of r) s × Reached (BehindFeed r.fanins r.signals r.inputs) g (s - r.inputs)
    unfolding net_of
    cut_needed s (start e) = let l = count_gates r in let q : s - r.inputs ≡ g = omega arith in (omega (arith, l), start q)
    cut_needed s (next {v} p b) =
        let k = cut_needed v p in
        let l = count_gates r in
        let low = has_of (net_of r) s b.gate in
        let has = k.0 in
        let e : v ≡ r.inputs + (v - r.inputs) = omega (arith, has) in
        let read = subst (λ (x : ℕ). T (reads s (gate_at (net_of r) x))) e b.read in
        (low, next k.1 (net_behind (v - r.inputs) s (omega (arith, has, l)) (omega (arith, low)) read))

    -- the marks that stand for what gate g needs are the marks of the cut
    pub needed_marks : (marks : List Bool) → Needed r.fanins r.signals r.inputs g marks → (s : ℕ) → s < r.gates
        → get_or marks s false ≡ get_or (cut_marks (net_of r) (r.inputs + g)) s false
    unfolding net_of
    needed_marks marks n s k =
        let l = count_gates r in
        let e = belongs_exact (net_of r) (r.inputs + g) net_sound (omega (arith, l)) s (omega (arith, l)) in
        test_same (get_or marks s false) (get_or (cut_marks (net_of r) (r.inputs + g)) s false)
        (λ t. e.1 (needed_cut s ((n.exact s).0 (is_true (get_or marks s false) t))).1)
        (λ t.
        let back : r.inputs + s - r.inputs ≡ s = omega arith in
        let reached = subst (Reached (BehindFeed r.fanins r.signals r.inputs) g) back (cut_needed (r.inputs + s) (e.0 t)).1 in
        T_is (get_or marks s false) ((n.exact s).1 reached))
