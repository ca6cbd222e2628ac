-- What keeps a network sound: the merged gate within the limits, a gate replaced, and a gate removed that nothing reads. Assumes nothing.
use Rattle.std.specs.Prelude.{◌≡◌, Bool, List, [], ◌∷◌, map, ◌≢◌, ℕ, zero, suc, ◌+◌, ◌-◌, ◌≤◌, ◌<◌, T, length, set}
use Rattle.std.proofs.Common.{sym, ap, ◌∙◌, subst, arith, length-set}
use Rattle.std.proofs.Math.Decide.{dec_lt}
use Rattle.std.proofs.lemmas.List.{length-map}
use Rattle.basics.specs.Lists.{all, keep, range, Each}
use Rattle.basics.specs.TestLaws.{T_and, and_T, cond_case}
use Rattle.basics.specs.ListLaws.{each_imp, length_keep, has_each}
use Rattle.network.specs.Threshold.{Feed, Gate, Net}
use Rattle.network.specs.Limits.{signals_of, in_scale, weighs, weight_ok, scale_ok, keeps}
use Rattle.network.specs.Changes.{with_gate, with_gates, lowered, lowered_feed, lowered_gate, remove_at, without}
use Rattle.network.specs.Sound.{Rise, GateOk, GatesOk, Has, Sound}
use Rattle.network.specs.LimitLaws.{rise_below}
use Rattle.network.specs.MarginLaws.{keeps_with, keeps_without}
use Rattle.fold_theory.specs.Merge.{silent, reads, Edge, among, distinct, merged_feed, merged}
use Rattle.network.specs.ChangeLaws.{lowered_low, lowered_high, lowered_suc, length_remove}
use Rattle.fold_theory.proofs.LowerLaws.{DoesNotRead}
use Rattle.fold_theory.proofs.AgreeLaws.{FeedsBelow}

-- ---- the merged gate
rise_less : (a b m n : ℕ) (ss : List ℕ) → a ≤ b → m ≤ n → Rise b m ss → Rise a n ss
rise_less a b m n [] h k r = tt
rise_less a b m n (s ∷ ss) h k r = (omega arith, omega arith, rise_less (suc s) (suc s) m n ss (omega arith) k r.2)

rise_keep : (p : ℕ → Bool) (a n : ℕ) (ss : List ℕ) → Rise a n ss → Rise a n (keep p ss)
unfolding keep
rise_keep p a n [] r = tt
rise_keep p a n (s ∷ ss) r = cond_case (Rise a n) (p s) (λ t. (r.0, r.1, rise_keep p (suc s) n ss r.2))
    (λ t. rise_less a (suc s) n n (keep p ss) (omega arith) (omega arith) (rise_keep p (suc s) n ss r.2))

rise_merged : (e : Edge) (k l a n : ℕ) (ss : List ℕ) → Rise a n ss → Rise a n (signals_of (keep weighs (map (merged_feed e k l) ss)))
unfolding keep signals_of merged_feed
rise_merged e k l a n [] r = tt
rise_merged e k l a n (s ∷ ss) r =
    let rest = rise_merged e k l (suc s) n ss r.2 in
    cond_case (λ x. Rise a n (signals_of x)) (weighs (merged_feed e k l s)) (λ t. (r.0, r.1, rest))
    (λ t. rise_less a (suc s) n n (signals_of (keep weighs (map (merged_feed e k l) ss))) (omega arith) (omega arith) rest)

rise_range : (a n : ℕ) → Rise a (a + n) (range a n)
unfolding range
rise_range a zero = tt
rise_range a (suc n) = (omega arith, omega arith, rw (let e : a + suc n ≡ suc a + n = omega arith in e) (rise_range (suc a) n))

pub merged_ok : (e : Edge) (k l : ℕ) → length (distinct e) ≤ 16 → T (scale_ok (merged e k l)) → GateOk e.v (merged e k l)
unfolding merged distinct
merged_ok e k l few t = record {
  few = omega (arith, length_keep weighs (map (merged_feed e k l) (distinct e)), length-map (distinct e) (merged_feed e k l));
  rise = rise_merged e k l 0 e.v (distinct e) (rise_keep (among e) 0 e.v (range 0 e.v) below);
  scaled = t;
}
  where
    below : Rise 0 e.v (range 0 e.v)
    below = rise_less 0 0 (0 + e.v) e.v (range 0 e.v) (omega arith) (omega arith) (rise_range 0 e.v)

-- a gate that reads u lies above it
pub reader_above : (u n : ℕ) (g : Gate) → GateOk n g → T (reads u g) → u < n
unfolding reads silent
reader_above u n g h t = has_each (λ s. s < n) (signals_of g.feeds) (rise_below 0 n (signals_of g.feeds) h.rise) u t

pub both_low : (e : Edge) → GateOk e.u e.gate_u → GateOk e.v e.gate_v → T (reads e.u e.gate_v) → FeedsBelow e
both_low e a b t = let h = reader_above e.u e.v e.gate_v b t in (
  each_imp (λ s. s < e.u) (λ s. s < e.v) (λ s p. omega arith) (signals_of e.gate_u.feeds) (rise_below 0 e.u (signals_of e.gate_u.feeds) a.rise),
  rise_below 0 e.v (signals_of e.gate_v.feeds) b.rise,
)

-- ---- a gate replaced
gates_set : (n i : ℕ) (gs : List Gate) (g : Gate) → GatesOk n gs → GateOk (n + i) g → GatesOk n (set gs i g)
gates_set n i [] g h k = tt
gates_set n zero (x ∷ gs) g h k = (subst (λ m. GateOk m g) (let e : n + 0 ≡ n = omega arith in e) k, h.1)
gates_set n (suc i) (x ∷ gs) g h k = (h.0, gates_set (suc n) i gs g h.1 (subst (λ m. GateOk m g) (let e : n + suc i ≡ suc n + i = omega arith in e) k))

-- other gates, as many
pub resized_sound : (N : Net) (gs : List Gate) → length gs ≡ length N.gates → GatesOk N.inputs gs → T (all (keeps N.board) gs)
    → Sound N → Sound (with_gates N gs)
resized_sound N gs e h k s = record {
  board_ok_lem = s.board_ok_lem;
  few_inputs = s.few_inputs;
  few_gates = rw e s.few_gates;
  few_outputs = s.few_outputs;
  all_gates = h;
  all_keep = k;
  all_outputs = subst (λ m. Each (λ x. (N.inputs ≤ x) × (x < N.inputs + m)) N.outputs) (sym e) s.all_outputs;
}

pub with_gate_sound : (N : Net) (v : ℕ) (g : Gate) → Has N v → GateOk v g → T (keeps N.board g) → Sound N → Sound (with_gate N v g)
unfolding with_gate
with_gate_sound N v g h k m s = resized_sound N (set N.gates (v - N.inputs) g) (length-set N.gates (v - N.inputs) g)
    (gates_set N.inputs (v - N.inputs) N.gates g s.all_gates (subst (λ n. GateOk n g) (let e : v ≡ N.inputs + (v - N.inputs) = omega arith in e) k))
    (keeps_with N s.all_keep v g m) s

-- ---- a gate removed that nothing reads
lowered_mono : (u a b : ℕ) → a ≤ b → lowered u a ≤ lowered u b
lowered_mono u a b h = go (dec_lt u a) (dec_lt u b)
  where
    go : Dec (u < a) → Dec (u < b) → lowered u a ≤ lowered u b
    go (yes p) (yes q) = rw (lowered_high u a p, lowered_high u b q) (omega arith)
    go (yes p) (no q) = absurd (omega arith)
    go (no p) (yes q) = rw (lowered_low u a (omega arith), lowered_high u b q) (omega arith)
    go (no p) (no q) = rw (lowered_low u a (omega arith), lowered_low u b (omega arith)) h

rise_lowered : (u a n : ℕ) (fs : List Feed) → Each (λ s. s ≢ u) (signals_of fs) → Rise a n (signals_of fs)
    → Rise (lowered u a) (lowered u n) (signals_of (map (lowered_feed u) fs))
unfolding lowered_feed signals_of
rise_lowered u a n [] h r = tt
rise_lowered u a n (f ∷ fs) h r = (
  lowered_mono u a f.signal r.0,
  rw (← (lowered_suc u f.signal h.0)) (lowered_mono u (suc f.signal) n r.1),
  rw (← (lowered_suc u f.signal h.0)) (rise_lowered u (suc f.signal) n fs h.1 r.2),
)

weights_lowered : (u : ℕ) (fs : List Feed) → T (all weight_ok fs) → T (all weight_ok (map (lowered_feed u) fs))
unfolding all weight_ok lowered_feed
weights_lowered u [] t = tt
weights_lowered u (f ∷ fs) t =
    let h = T_and (weight_ok f) (all weight_ok fs) t in
    and_T (weight_ok f) (all weight_ok (map (lowered_feed u) fs)) h.0 (weights_lowered u fs h.1)

-- a lowered gate is within the limits
pub lowered_ok : (u n : ℕ) (g : Gate) → DoesNotRead u g → GateOk n g → GateOk (lowered u n) (lowered_gate u g)
unfolding lowered_gate scale_ok
lowered_ok u n g h o = record {
  few = rw (length-map g.feeds (lowered_feed u)) o.few;
  rise = rw (← (lowered_low u 0 (omega arith))) (rise_lowered u 0 n g.feeds h o.rise);
  scaled = let k = T_and (in_scale g.threshold) (all weight_ok g.feeds) o.scaled in
      and_T (in_scale g.threshold) (all weight_ok (map (lowered_feed u) g.feeds)) k.0 (weights_lowered u g.feeds k.1);
}

gates_above : (u n : ℕ) (gs : List Gate) → u ≤ n → Each (DoesNotRead u) gs → GatesOk (suc n) gs → GatesOk n (map (lowered_gate u) gs)
gates_above u n [] h f r = tt
gates_above u n (g ∷ gs) h f r = (
  subst (λ m. GateOk m (lowered_gate u g)) (lowered_high u (suc n) (omega arith) ∙ omega arith) (lowered_ok u (suc n) g f.0 r.0),
  gates_above u (suc n) gs (omega arith) f.1 r.1,
)

gates_without : (u n i : ℕ) (gs : List Gate) → u ≡ n + i → Each (DoesNotRead u) gs → GatesOk n gs → GatesOk n (map (lowered_gate u) (remove_at i gs))
unfolding remove_at
gates_without u n i [] e f r = tt
gates_without u n zero (g ∷ gs) e f r = gates_above u n gs (omega arith) f.1 r.1
gates_without u n (suc i) (g ∷ gs) e f r = (
  subst (λ m. GateOk m (lowered_gate u g)) (lowered_low u n (omega arith)) (lowered_ok u n g f.0 r.0),
  gates_without u (suc n) i gs (omega arith) f.1 r.1,
)

pub without_size : (N : Net) (u : ℕ) → Has N u → suc (length (without N u).gates) ≡ length N.gates
unfolding without
without_size N u g = ap suc (length-map (remove_at (u - N.inputs) N.gates) (lowered_gate u)) ∙ length_remove N.gates (u - N.inputs) (omega arith)

outputs_lowered : (u a b : ℕ) (ss : List ℕ) → a ≤ u → u ≤ b → Each (λ s. s ≢ u) ss
    → Each (λ s. (a ≤ s) × (s < suc b)) ss → Each (λ s. (a ≤ s) × (s < b)) (map (lowered u) ss)
outputs_lowered u a b [] h k d o = tt
outputs_lowered u a b (s ∷ ss) h k d o = (
  elim (dec_lt u s) as (λ x. (a ≤ lowered u s) × (lowered u s < b)) [
    | yes p ↦ rw (lowered_high u s p) (omega arith)
    | no p ↦ rw (lowered_low u s (omega arith)) (omega arith)
  ],
  outputs_lowered u a b ss h k d.1 o.1,
)

some_output : (a b : ℕ) (ss : List ℕ) → 1 ≤ length ss → Each (λ s. (a ≤ s) × (s < b)) ss → a < b
some_output a b [] h o = absurd (omega arith)
some_output a b (s ∷ ss) h o = omega arith

pub without_sound : (N : Net) (u : ℕ) → Has N u → Each (DoesNotRead u) N.gates → Each (λ s. s ≢ u) N.outputs → Sound N → Sound (without N u)
unfolding without
without_sound N u g f o s = record {
  board_ok_lem = s.board_ok_lem;
  few_inputs = s.few_inputs;
  few_gates = omega (arith, size, some, s.few_gates);
  few_outputs = rw (length-map N.outputs (lowered u)) s.few_outputs;
  all_gates = gates_without u N.inputs (u - N.inputs) N.gates (omega arith) f s.all_gates;
  all_keep = keeps_without N s.all_keep u;
  all_outputs = outputs;
}
  where
    size : suc (length (without N u).gates) ≡ length N.gates
    size = without_size N u g

    outputs : Each (Has (without N u)) (without N u).outputs
    outputs = outputs_lowered u N.inputs (N.inputs + length (without N u).gates) N.outputs g.0 (omega (arith, size)) o
        (subst (λ m. Each (λ s. (N.inputs ≤ s) × (s < m)) N.outputs) (omega (arith, size)) s.all_outputs)

    some : N.inputs < N.inputs + length (without N u).gates
    some =
        some_output N.inputs (N.inputs + length (without N u).gates) (without N u).outputs
        (rw (length-map N.outputs (lowered u)) s.few_outputs.0) outputs
