-- The lanes: what putting the masks of a signal, or some of them, makes of each lane. Assumes nothing.
use mathlib.Core.Path.{◌≡◌, sym, ap, ◌∙◌}
use mathlib.Core.Bool.{Bool, false}
use mathlib.Core.List.{List, map}
use mathlib.Core.Logic.{◌≢◌}
use Prim.Native.Nat.{ℕ, ◌+◌, ◌-◌, ◌*◌, ◌≤◌, ◌<◌}
use native.Mathlib.Decide.{dec_lt}
use native.Mathlib.Omega.{arith}
use lib.IntN.{ℤ, pos}
use lib.ListN.{length, get_or, set, replicate, length-replicate}
use Rattle.basics.specs.Lists.{tab}
use Rattle.basics.specs.ListLaws.{get_or_spare, tab_same, tab_replicate}
use Rattle.basics.specs.TableLaws.{tab_set}
use Rattle.network.specs.Threshold.{word_of}
use Rattle.network.specs.Places.{Pasted}
use Rattle.network_places.specs.PasteLaws.{pasted_first}
use Rattle.frame_reading.specs.Evaluation.{bits_in}
use Rattle.frame_lanes.specs.Lanes.{mask_of, is_on, lane, Masks}
use Rattle.frame_lanes.specs.MaskLaws.{on_mask}
use Rattle.frame_pass.specs.Lanes.{Blank, LanesPut, LaneWords}

-- ---- the masks
pub blank_all : Blank (replicate 16384 (pos 0))
blank_all = record { long = length-replicate 16384 (pos 0); zero = λ p. get_or_spare 16384 p (pos 0) }

pub masks_none : {masks : List ℤ} → Blank masks → Masks masks
masks_none h = record { long = h.long; mask = λ p. h.zero p ∙ ap (λ (z : ℤ). mask_of (is_on z)) (sym (h.zero p)) }

mask_is : (b : Bool) {z : ℤ} → z ≡ mask_of b → z ≡ mask_of (is_on z)
mask_is b {z} e = e ∙ ap mask_of (sym (on_mask b)) ∙ ap (λ (x : ℤ). mask_of (is_on x)) (sym e)

pub masks_put : {base n : ℕ} (b : ℕ → Bool) {old new : List ℤ} → Masks old → Pasted (pos 0) base n (λ f. mask_of (b f)) old new → base + n ≤ 16384 → Masks new
masks_put {base} {n} b {old} {new} m h k = record {
  long = h.long ∙ m.long;
  mask = λ p. elim (dec_lt p base) as (λ t. get_or new p (pos 0) ≡ mask_of (is_on (get_or new p (pos 0)))) [
    | yes j ↦ mask_is (is_on (get_or old p (pos 0))) (h.before p j ∙ m.mask p)
    | no j ↦ elim (dec_lt p (base + n)) as (λ t. get_or new p (pos 0) ≡ mask_of (is_on (get_or new p (pos 0)))) [
      | yes l ↦
          let e : p ≡ base + (p - base) = omega arith in
          mask_is (b (p - base)) (ap (λ (q : ℕ). get_or new q (pos 0)) e ∙ h.inside (p - base) (omega arith) (omega (arith, m.long)))
      | no l ↦ mask_is (is_on (get_or old p (pos 0))) (h.after p (omega arith) ∙ m.mask p)
    ]
  ];
}

-- ---- the lanes
pub lane_none : {masks : List ℤ} (f : ℕ) → Blank masks → lane masks f ≡ replicate 256 false
unfolding lane
lane_none {masks} f h =
    tab_same 256 (λ s. is_on (get_or masks (64 * s + f) (pos 0))) (λ s. false) (λ s l. ap is_on (h.zero (64 * s + f)))
    ∙ tab_replicate 256 false

-- k masks of signal n are put
module _ (n f : ℕ) {k : ℕ} {old new : List ℤ} {v : ℕ → ℤ} (h : Pasted (pos 0) (64 * n) k v old new) (few : k ≤ 64) (low : f < 64) where
  -- lane f of another signal
  other_signal : (s : ℕ) → s ≢ n → get_or new (64 * s + f) (pos 0) ≡ get_or old (64 * s + f) (pos 0)
  other_signal s q = elim (dec_lt s n) as (λ t. get_or new (64 * s + f) (pos 0) ≡ get_or old (64 * s + f) (pos 0)) [
    | yes j ↦ h.before (64 * s + f) (omega arith)
    | no j ↦ elim (dec_lt n s) as (λ t. get_or new (64 * s + f) (pos 0) ≡ get_or old (64 * s + f) (pos 0)) [
      | yes i ↦ h.after (64 * s + f) (omega arith)
      | no i ↦ absurd (q (omega arith))
    ]
  ]

  -- one of the first k lanes has its bit there
  lane_put : (b : Bool) → is_on (get_or new (64 * n + f) (pos 0)) ≡ b → n < 256 → lane new f ≡ set (lane old f) n b
  unfolding lane
  lane_put b e l =
      tab_set false 256 n (λ s. is_on (get_or new (64 * s + f) (pos 0))) (λ s. is_on (get_or old (64 * s + f) (pos 0))) b l e
      (λ s q. ap is_on (other_signal s q))

  -- every later lane is as it was
  pub lane_kept : k ≤ f → lane new f ≡ lane old f
  unfolding lane
  lane_kept l =
      tab_same 256 (λ s. is_on (get_or new (64 * s + f) (pos 0))) (λ s. is_on (get_or old (64 * s + f) (pos 0)))
      (λ s q. ap is_on (same s))
    where
      same : (s : ℕ) → get_or new (64 * s + f) (pos 0) ≡ get_or old (64 * s + f) (pos 0)
      same s = elim (dec_lt s n) as (λ t. get_or new (64 * s + f) (pos 0) ≡ get_or old (64 * s + f) (pos 0)) [
        | yes j ↦ h.before (64 * s + f) (omega arith)
        | no j ↦ h.after (64 * s + f) (omega arith)
      ]

-- the masks of a signal in k lanes, of which n are asked for
pub put_all : {s k n : ℕ} (b : ℕ → Bool) {old new : List ℤ} → Masks old → Pasted (pos 0) (64 * s) k (λ f. mask_of (b f)) old new
    → s < 256 → n ≤ k → k ≤ 64 → LanesPut s n b old new
put_all {s} {k} {n} b {old} {new} m h low few most = record {
  masked = masks_put b m h (omega arith);
  bits = λ f l.
      let on : is_on (get_or new (64 * s + f) (pos 0)) ≡ b f = ap is_on (h.inside f (omega arith) (omega (arith, m.long))) ∙ on_mask (b f) in
      lane_put s f h most (omega arith) (b f) on low;
}

-- ---- the words of the lanes
pub words_all : {masks : List ℤ} {driver : ℕ → ℕ} {outputs n f : ℕ} {words : List ℕ}
    → Pasted 0 0 f (λ k. word_of (map (bits_in (lane masks k)) (tab outputs driver))) (replicate 64 0) words → n ≤ f → n ≤ 64
    → LaneWords masks driver outputs n words
words_all {masks} {driver} {outputs} {n} {f} {words} h k few =
    let long : length {A = ℕ} (replicate 64 0) ≡ 64 = length-replicate {A = ℕ} 64 0 in
    record { long = h.long ∙ long; word = λ i l. pasted_first h (omega arith) (omega arith) }
