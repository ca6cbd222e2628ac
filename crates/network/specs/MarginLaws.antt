-- Laws of the margins: version 1 can't break them, what a fold does to gates keeps them, and the weights at a record's places are those of
-- its gates. Assumes nothing.
use Rattle.std.specs.Prelude.{◌≡◌, refl, Bool, true, false, not, cond, ◌&&◌, List, [], ◌∷◌, map, ℕ, zero, suc, ◌+◌, ◌-◌, ◌*◌, ◌≤◌, ℤ, pos, nat_abs, ◌+ℤ◌, length, get_or, set, take, drop}
use Rattle.std.proofs.Common.{sym, ap, ◌∙◌, arith, drop-cons}
use Rattle.std.proofs.Math.Path.{ap₂, subst, fun_ext}
use Rattle.std.proofs.lemmas.Simd.{map-map}
use Rattle.std.proofs.Math.Dec.{T}
use Rattle.std.proofs.lemmas.List.{length-map}
use Rattle.basics.specs.Lists.{all, below, keep, range, tab, Each}
use Rattle.basics.specs.SizeLaws.{SizesWithin}
use Rattle.basics.specs.ListLaws.{at_below, length_range, length_tab, get_or_tab, all_tab}
use Rattle.basics.specs.TestLaws.{is_true, T_is, T_and, and_T}
use Rattle.gate_rising.specs.Sums.{every_sum}
use Rattle.gate_margins.specs.Sums.{outside}
use Rattle.gate_margins.specs.Tables.{OnScale}
use Rattle.gate_margins.specs.SumLaws.{every_zero, margins_always}
use Rattle.network.specs.Threshold.{Feed, Gate, Net}
use Rattle.network.specs.Limits.{scale, is_zero, weighs, scale_ok, weights_of, keeps}
use Rattle.network.specs.LimitLaws.{zero_is, gate_sizes, gates_at}
use Rattle.network.specs.Sound.{GateOk, GatesOk}
use Rattle.network.specs.Record.{feed_at, feeds_from, gate_from, gate_of, gate_in, no_gate}
use Rattle.network.specs.Changes.{lowered_feed, lowered_gate, remove_at, with_gate, without}
use Rattle.network.specs.Margins.{weights_from, places_keep, GatesOnScale}
use Rattle.network.specs.declared.Board.{Board}
use Rattle.network.specs.declared.GateRecord.{GateRecord}
use Rattle.network.specs.declared.Network.{Network}

-- ---- version 1: "on 0 and off 1"
pub keeps_plain : (b : Board) (g : Gate) → b.on ≡ 0 → b.off ≡ 1 → keeps b g ≡ true
unfolding keeps
keeps_plain b g e f = ap₂ (λ (n m : ℕ). every_sum (outside n m g.threshold) (weights_of g.feeds)) e f ∙ margins_always g.threshold (weights_of g.feeds)

pub all_plain : (b : Board) (gs : List Gate) → b.on ≡ 0 → b.off ≡ 1 → T (all (keeps b) gs)
unfolding all
all_plain b [] e f = tt
all_plain b (g ∷ gs) e f = and_T (keeps b g) (all (keeps b) gs) (T_is (keeps b g) (keeps_plain b g e f)) (all_plain b gs e f)

-- ---- what a fold does to gates

-- feeds of weight 0
pub every_stays : (p : ℤ → Bool) (fs : List Feed) → every_sum p (weights_of (keep weighs fs)) ≡ every_sum p (weights_of fs)
unfolding every_sum weights_of keep weighs
every_stays p [] = refl
every_stays p (f ∷ fs) = elim (is_zero f.weight) as
    (λ b. (T b → f.weight ≡ pos 0) → every_sum p (weights_of (cond (not b) (f ∷ keep weighs fs) (keep weighs fs))) ≡ every_sum p (f.weight ∷ weights_of fs)) [
      | true ↦ λ e. every_stays p fs ∙ sym (every_zero p (weights_of fs)) ∙ ap (λ (w : ℤ). every_sum p (w ∷ weights_of fs)) (sym (e tt))
      | false ↦ λ e. ap₂ ◌&&◌ (every_stays p fs) (every_stays (λ z. p (f.weight +ℤ z)) fs)
    ]
    (zero_is f.weight)

-- "higher signals fall by one"
weights_of_lowered : (u : ℕ) (fs : List Feed) → weights_of (map (lowered_feed u) fs) ≡ weights_of fs
unfolding weights_of lowered_feed
weights_of_lowered u [] = refl
weights_of_lowered u (f ∷ fs) = ap (λ (ws : List ℤ). f.weight ∷ ws) (weights_of_lowered u fs)

keeps_lowered : (b : Board) (u : ℕ) (g : Gate) → keeps b (lowered_gate u g) ≡ keeps b g
unfolding keeps lowered_gate
keeps_lowered b u g = ap (every_sum (outside b.on b.off g.threshold)) (weights_of_lowered u g.feeds)

all_lowered : (b : Board) (u : ℕ) (gs : List Gate) → all (keeps b) (map (lowered_gate u) gs) ≡ all (keeps b) gs
unfolding all
all_lowered b u [] = refl
all_lowered b u (g ∷ gs) = ap₂ ◌&&◌ (keeps_lowered b u g) (all_lowered b u gs)

all_set : (p : Gate → Bool) (gs : List Gate) (i : ℕ) (g : Gate) → T (all p gs) → T (p g) → T (all p (set gs i g))
unfolding all
all_set p [] i g t k = tt
all_set p (x ∷ gs) zero g t k = and_T (p g) (all p gs) k (T_and (p x) (all p gs) t).1
all_set p (x ∷ gs) (suc i) g t k = let h = T_and (p x) (all p gs) t in and_T (p x) (all p (set gs i g)) h.0 (all_set p gs i g h.1 k)

all_remove : (p : Gate → Bool) (i : ℕ) (gs : List Gate) → T (all p gs) → T (all p (remove_at i gs))
unfolding all remove_at
all_remove p i [] t = tt
all_remove p zero (x ∷ gs) t = (T_and (p x) (all p gs) t).1
all_remove p (suc i) (x ∷ gs) t = let h = T_and (p x) (all p gs) t in and_T (p x) (all p (remove_at i gs)) h.0 (all_remove p i gs h.1)

module _ (N : Net) (t : T (all (keeps N.board) N.gates)) where
  -- a gate replaced by one that keeps the margins
  pub keeps_with : (v : ℕ) (g : Gate) → T (keeps N.board g) → T (all (keeps N.board) (with_gate N v g).gates)
  unfolding with_gate
  keeps_with v g k = all_set (keeps N.board) N.gates (v - N.inputs) g t k

  -- a gate removed
  pub keeps_without : (u : ℕ) → T (all (keeps N.board) (without N u).gates)
  unfolding without
  keeps_without u =
      let gs = remove_at (u - N.inputs) N.gates in
      subst T (sym (all_lowered N.board u gs)) (all_remove (keeps N.board) (u - N.inputs) N.gates t)

-- ---- the weights at the places
weights_from_lem : (signals : List ℕ) (weights : List ℤ) (p count : ℕ) → weights_of (feeds_from signals weights p count) ≡ weights_from weights p count
unfolding weights_of feeds_from weights_from feed_at
weights_from_lem signals weights p count = map-map (λ f. f.weight) (feed_at signals weights) (range p count)

-- a part of the array
pub weights_part : (weights : List ℤ) (p count : ℕ) → p + count ≤ length weights → weights_from weights p count ≡ take count (drop p weights)
unfolding weights_from range
weights_part weights p zero h = refl
weights_part weights p (suc count) h =
    rw (drop-cons weights p (pos 0) (omega arith)) (ap (λ (ws : List ℤ). get_or weights p (pos 0) ∷ ws) (weights_part weights (suc p) count (omega arith)))

pub length_weights : (weights : List ℤ) (p count : ℕ) → length (weights_from weights p count) ≡ count
unfolding weights_from
length_weights weights p count = length-map (range p count) (λ i. get_or weights i (pos 0)) ∙ length_range p count

-- the weights of a gate's own 16 places
pub gate_weights : (r : GateRecord) → weights_of (gate_in r).feeds ≡ weights_from r.weights 0 r.fanin
unfolding gate_in
gate_weights r = weights_from_lem r.signals r.weights 0 r.fanin

-- ---- what a gate within the limits gives
weights_of_small : (fs : List Feed) → Each (λ f. nat_abs f.weight ≤ scale) fs → SizesWithin scale (weights_of fs)
unfolding weights_of
weights_of_small [] h i = omega arith
weights_of_small (f ∷ fs) h zero = h.0
weights_of_small (f ∷ fs) h (suc i) = weights_of_small fs h.1 i

pub on_scale_lem : (g : Gate) → length g.feeds ≤ 16 → T (scale_ok g) → OnScale (weights_of g.feeds) g.threshold
unfolding weights_of
on_scale_lem g few t =
    let z = gate_sizes g t in
    record {
      few = subst (λ (n : ℕ). n ≤ 16) (sym (length-map g.feeds (λ f. f.weight))) few;
      weights_small = weights_of_small g.feeds z.1;
      threshold_small = z.0;
    }

-- a gate's own 16 places
pub record_on_scale : (r : GateRecord) (g : Gate) → gate_in r ≡ g → length g.feeds ≤ 16 → T (scale_ok g) → OnScale (weights_of (gate_in r).feeds) r.threshold
unfolding gate_in
record_on_scale r g e few t = subst (λ (x : Gate). OnScale (weights_of x.feeds) x.threshold) (sym e) (on_scale_lem g few t)

-- ---- the gates of a record

-- version 1
pub places_plain : (b : Board) (fanins : List ℕ) (thresholds weights : List ℤ) (gates : ℕ) → b.on ≡ 0 → b.off ≡ 1
    → below gates (places_keep b fanins thresholds weights) ≡ true
places_plain b fanins thresholds weights gates e f = is_true _ (at_below gates (places_keep b fanins thresholds weights) λ g h.
    T_is _ (plain g))
  where
    plain : (g : ℕ) → places_keep b fanins thresholds weights g ≡ true
    plain g = unfold places_keep in ap₂ (λ (n m : ℕ). every_sum (outside n m (get_or thresholds g (pos 0))) (weights_from weights (16 * g) (get_or fanins g 0))) e f
        ∙ margins_always (get_or thresholds g (pos 0)) (weights_from weights (16 * g) (get_or fanins g 0))

places_keep_lem : (r : Network) (g : ℕ) → keeps r.board (gate_of r g) ≡ places_keep r.board r.fanins r.thresholds r.weights g
unfolding keeps places_keep gate_from
places_keep_lem r g =
    ap (every_sum (outside r.board.on r.board.off (get_or r.thresholds g (pos 0))))
    (weights_from_lem r.signals r.weights (16 * g) (get_or r.fanins g 0))

pub gates_keep : (r : Network)
    → all (keeps r.board) (tab r.gates (gate_of r)) ≡ below r.gates (places_keep r.board r.fanins r.thresholds r.weights)
gates_keep r = all_tab (keeps r.board) r.gates (gate_of r) ∙ ap (below r.gates) (fun_ext (places_keep_lem r))

pub gates_on_scale : (r : Network) → r.gates ≤ 128 → GatesOk r.inputs (tab r.gates (gate_of r))
    → GatesOnScale r.fanins r.thresholds r.weights r.gates
unfolding gate_from
gates_on_scale r few s = record {
  few = few;
  each = λ g h.
      let ok = gates_at r.inputs g (tab r.gates (gate_of r)) no_gate s (omega (arith, length_tab r.gates (gate_of r))) in
      let own = subst (GateOk (r.inputs + g)) (get_or_tab no_gate r.gates (gate_of r) g h) ok in
      subst (λ (ws : List ℤ). OnScale ws (get_or r.thresholds g (pos 0))) (weights_from_lem r.signals r.weights (16 * g) (get_or r.fanins g 0))
      (on_scale_lem (gate_of r g) own.few own.scaled);
}
