-- The sums of a gate's feeds in 32 lanes, feed by feed, how large they are, and the gate's bits by them. Assumes nothing.
use mathlib.Core.Path.{◌≡◌, refl, sym, ap, ap₂, ◌∙◌, subst}
use mathlib.Core.Bool.{Bool, cond}
use mathlib.Core.List.{List}
use Prim.Native.Nat.{ℕ, ◌+◌, ◌*◌, ◌≤◌, ◌<◌}
use native.Mathlib.Omega.{arith}
use lib.IntN.{ℤ, pos, nat_abs, ◌+ℤ◌}
use lib.ListN.{length, get_or, replicate, length-replicate, get_or-replicate}
use lib.Signed.{le_z}
use Rattle.network.specs.Threshold.{sum, bit}
use Rattle.network.specs.Record.{feeds_from, gate_from}
use Rattle.network.specs.Places.{Pasted}
use Rattle.network_places.specs.PasteLaws.{pasted_first, pasted_as}
use Rattle.frame_reading.specs.Evaluation.{bits_in}
use Rattle.frame_reading.proofs.SumLaws.{Added, added_none, added_next, added_all}
use Rattle.frame_lanes.specs.Lanes.{mask_of, is_on, lane, CanSum, LaneSums, gate_masks}
use Rattle.frame_lanes.specs.LaneLaws.{lane_bit}

-- ---- the sums

-- in each of 32 lanes i of the count feeds are added
pub record LanesAdded (masks : List ℤ) (ss : List ℕ) (ws : List ℤ) (base count block i : ℕ) (sums : List ℤ) : Type 0 where
  pub long : length sums ≡ 32
  pub added : (f : ℕ) → f < 32 → Added 1000000 (bits_in (lane masks (block + f))) ss ws base count i (get_or sums f (pos 0))

pub lanes_none : (masks : List ℤ) (ss : List ℕ) (ws : List ℤ) (base count block : ℕ) → LanesAdded masks ss ws base count block 0 (replicate 32 (pos 0))
lanes_none masks ss ws base count block = record {
  long = length-replicate 32 (pos 0);
  added = λ f h. subst (Added 1000000 (bits_in (lane masks (block + f))) ss ws base count 0) (sym (get_or-replicate 32 f (pos 0) (pos 0) h))
      (added_none (bits_in (lane masks (block + f))) ss ws 1000000 base count);
}

module _ {masks : List ℤ} {ss : List ℕ} {ws : List ℤ} {base count block i : ℕ} {sums : List ℤ} (h : LanesAdded masks ss ws base count block i sums) where
  pub lanes_small : i < count → count ≤ 16 → (f : ℕ) → f < 32 → nat_abs (get_or sums f (pos 0)) ≤ 15000000
  lanes_small k few f l = omega (arith, (h.added f l).small)

  -- one feed more, at signal s with weight w
  pub lanes_next : CanSum ws masks base count block → i < count → {new : List ℤ} (s : ℕ) (w : ℤ) → s < 256
      → s ≡ get_or ss (base + i) 0 → w ≡ get_or ws (base + i) (pos 0)
      → Pasted (pos 0) 0 32 (λ f. get_or sums f (pos 0) +ℤ cond (is_on (get_or masks (64 * s + block + f) (pos 0))) w (pos 0)) sums new
      → LanesAdded masks ss ws base count block (i + 1) new
  lanes_next can k {new} s w low e d p = record {
    long = p.long ∙ h.long;
    added = λ f l.
        let ρ = bits_in (lane masks (block + f)) in
        let at : 64 * s + block + f ≡ 64 * s + (block + f) = omega arith in
        let on : is_on (get_or masks (64 * s + block + f) (pos 0)) ≡ ρ (get_or ss (base + i) 0)
        = ap (λ (q : ℕ). is_on (get_or masks q (pos 0))) at ∙ sym (lane_bit masks (block + f) s low) ∙ ap ρ e in
        let sum = pasted_first p l (omega (arith, h.long))
        ∙ ap (λ (z : ℤ). get_or sums f (pos 0) +ℤ z) (ap₂ (λ (b : Bool) (z : ℤ). cond b z (pos 0)) on d) in
        subst (Added 1000000 ρ ss ws base count (i + 1)) (sym sum) (added_next (h.added f l) k (can.light i k));
  }

  pub lanes_all : count ≤ i → LaneSums masks ss ws base count block sums
  lanes_all k = record { long = h.long; total = λ f l. added_all (h.added f l) k }

-- ---- the gate

-- 32 lanes by their sums: these are the gate's bits
pub block_put : {masks new sums ws : List ℤ} {ss : List ℕ} {count block from : ℕ} {t : ℤ} (fanins : List ℕ) (thresholds : List ℤ) (g : ℕ)
    → LaneSums masks ss ws (16 * g) count block sums → count ≡ get_or fanins g 0 → t ≡ get_or thresholds g (pos 0)
    → Pasted (pos 0) from 32 (λ f. mask_of (le_z t (get_or sums f (pos 0)))) masks new
    → Pasted (pos 0) from 32 (gate_masks masks (gate_from fanins thresholds ss ws g) block) masks new
unfolding bit gate_from
block_put {masks} {new} {sums} {ws} {ss} {count} {block} fanins thresholds g h e d p = pasted_as p refl λ f l.
    ap mask_of (ap₂ le_z d (h.total f l ∙ ap (λ (n : ℕ). sum (bits_in (lane masks (block + f))) (feeds_from ss ws (16 * g) n)) e))
