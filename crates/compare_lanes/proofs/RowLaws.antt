-- Rows of 32 lanes, filled lane by lane; a gate's sums in them, feed by feed, and its bits by the sums. Assumes nothing.
use mathlib.Core.Path.{◌≡◌, sym, ap, ap₂, ◌∙◌, subst}
use mathlib.Core.Bool.{Bool, cond}
use mathlib.Core.List.{List, []}
use Prim.Native.Nat.{ℕ, ◌+◌, ◌≤◌, ◌<◌}
use native.Mathlib.Omega.{arith}
use lib.IntN.{ℤ, pos, nat_abs, ◌+ℤ◌}
use lib.ListN.{length, get_or, replicate, length-replicate, get_or-replicate}
use lib.Signed.{le_z}
use Rattle.basics.specs.SizeLaws.{SizesWithin}
use Rattle.network.specs.Threshold.{sum, bit}
use Rattle.network.specs.Record.{feeds_from}
use Rattle.network.specs.Places.{Pasted}
use Rattle.network_places.specs.PasteLaws.{pasted_first}
use Rattle.frame_reading.proofs.SumLaws.{Added, added_none, added_next, added_all}
use Rattle.frame_lanes.specs.Lanes.{mask_of, is_on}
use Rattle.compare_theory.specs.Joint.{fanin, gate_of_rows}
use Rattle.compare_lanes.specs.Lanes.{lane_bits, MaskRow, RowSums}
use Rattle.compare_lanes.specs.LaneLaws.{mask_row_as}

-- all 32 lanes are filled
pub row_filled : {b : ℕ → Bool} {row : List ℤ} → Pasted (pos 0) 0 32 (λ f. mask_of (b f)) (replicate 32 (pos 0)) row → MaskRow b row
row_filled h =
    let long : length (replicate 32 (pos 0)) ≡ 32 = length-replicate 32 (pos 0) in
    record { long = h.long ∙ long; mask = λ f l. pasted_first h l (omega arith) }

-- ---- the sums

-- in each of 32 lanes i of the count feeds are added
pub record LanesAdded (lanes : List (List ℤ)) (wires : List ℕ) (weights : List ℤ) (count i : ℕ) (sums : List ℤ) : Type 0 where
  pub long : length sums ≡ 32
  pub added : (f : ℕ) → f < 32 → Added 1000000 (lane_bits lanes f) wires weights 1 count i (get_or sums f (pos 0))

pub lanes_none : (lanes : List (List ℤ)) (wires : List ℕ) (weights : List ℤ) (count : ℕ) → LanesAdded lanes wires weights count 0 (replicate 32 (pos 0))
lanes_none lanes wires weights count = record {
  long = length-replicate 32 (pos 0);
  added = λ f h. subst (Added 1000000 (lane_bits lanes f) wires weights 1 count 0) (sym (get_or-replicate 32 f (pos 0) (pos 0) h))
      (added_none (lane_bits lanes f) wires weights 1000000 1 count);
}

module _ {lanes : List (List ℤ)} {wires : List ℕ} {weights : List ℤ} {count i : ℕ} {sums : List ℤ} (h : LanesAdded lanes wires weights count i sums) where
  pub lanes_small : i < count → count ≤ 16 → (f : ℕ) → f < 32 → nat_abs (get_or sums f (pos 0)) ≤ 15000000
  lanes_small k few f l = omega (arith, (h.added f l).small)

  -- one feed more, at signal s with weight w
  pub lanes_next : SizesWithin 1000000 weights → i < count → {new : List ℤ} (s : ℕ) (w : ℤ) → s ≡ get_or wires (1 + i) 0 → w ≡ get_or weights (1 + i) (pos 0)
      → Pasted (pos 0) 0 32 (λ f. get_or sums f (pos 0) +ℤ cond (is_on (get_or (get_or lanes s []) f (pos 0))) w (pos 0)) sums new
      → LanesAdded lanes wires weights count (i + 1) new
  unfolding lane_bits
  lanes_next light k {new} s w e d p = record {
    long = p.long ∙ h.long;
    added = λ f l.
        let on : is_on (get_or (get_or lanes s []) f (pos 0)) ≡ lane_bits lanes f (get_or wires (1 + i) 0) = ap (lane_bits lanes f) e in
        let sum = pasted_first p l (omega (arith, h.long))
        ∙ ap (λ (z : ℤ). get_or sums f (pos 0) +ℤ z) (ap₂ (λ (b : Bool) (z : ℤ). cond b z (pos 0)) on d) in
        subst (Added 1000000 (lane_bits lanes f) wires weights 1 count (i + 1)) (sym sum) (added_next (h.added f l) k (light (1 + i)));
  }

  pub lanes_all : count ≤ i → count ≡ fanin wires → RowSums lanes wires weights sums
  lanes_all k e = record {
    total = λ f l. added_all (h.added f l) k ∙ ap (λ (n : ℕ). sum (lane_bits lanes f) (feeds_from wires weights 1 n)) e;
  }

-- ---- the gate

-- the gate's bits by its sums
pub gate_masks_lem : {lanes : List (List ℤ)} {wires : List ℕ} {weights sums row : List ℤ} {t : ℤ} → RowSums lanes wires weights sums
    → t ≡ get_or weights 0 (pos 0) → MaskRow (λ f. le_z t (get_or sums f (pos 0))) row → MaskRow (λ f. bit (lane_bits lanes f) (gate_of_rows wires weights)) row
unfolding bit gate_of_rows
gate_masks_lem h e m = mask_row_as m λ f l. ap₂ le_z e (h.total f l)
