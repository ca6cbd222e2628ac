-- Internal: what the lanes go by: 64 places for each signal, one for each frame, and a gate's sums and bits in 32 of them. Nothing is proved
-- here.
use Rattle.std.specs.Prelude.{◌≡◌, Bool, true, false, cond, List, ℕ, ◌+◌, ◌*◌, ◌≤◌, ◌<◌, ℤ, pos, negsuc, nat_abs, length, get_or}
use Rattle.basics.specs.Lists.{tab}
use Rattle.network.specs.Threshold.{Gate, sum, bit}
use Rattle.network.specs.Limits.{scale}
use Rattle.network.specs.Record.{feeds_from}
use Rattle.frame_reading.specs.Evaluation.{bits_in}

-- ---- masks and lanes

-- a bit as a mask of 32 bits: all ones, or all zeros
abbrev pub mask_of : Bool → ℤ
mask_of b = cond b (negsuc 0) (pos 0)

-- the bit of a mask
abbrev pub is_on : ℤ → Bool
is_on (pos n) = false
is_on (negsuc n) = true

-- lane f: the bits of all signals on frame f; signal s has its mask at place 64 s + f
unfoldable pub lane : List ℤ → ℕ → List Bool
lane masks f = tab 256 (λ s. is_on (get_or masks (64 * s + f) (pos 0)))

-- 16,384 places, each with a mask
pub record Masks (masks : List ℤ) : Type 0 where
  pub long : length masks ≡ 16384
  pub mask : (p : ℕ) → get_or masks p (pos 0) ≡ mask_of (is_on (get_or masks p (pos 0)))

-- ---- a gate's sums, in 32 lanes

-- 32 masks stand from a place on, and adding a weight to any of the sums stays within 32 bits
pub record CanAdd (masks sums : List ℤ) (from : ℕ) (weight : ℤ) : Type 0 where
  pub masked : Masks masks
  pub within : from + 32 ≤ 16384
  pub light : nat_abs weight ≤ scale
  pub small : (f : ℕ) → f < 32 → nat_abs (get_or sums f (pos 0)) ≤ 15000000

-- the feeds lie within their places, and their weights within the scale
pub record CanSum (weights masks : List ℤ) (base count block : ℕ) : Type 0 where
  pub masked : Masks masks
  pub places : base + count ≤ 2048
  pub few : count ≤ 16
  pub lanes : block + 32 ≤ 64
  pub light : (i : ℕ) → i < count → nat_abs (get_or weights (base + i) (pos 0)) ≤ scale

-- the sums of count feeds from place base on, in the 32 lanes from lane block on
pub record LaneSums (masks : List ℤ) (signals : List ℕ) (weights : List ℤ) (base count block : ℕ) (sums : List ℤ) : Type 0 where
  pub long : length sums ≡ 32
  pub total : (f : ℕ) → f < 32 → get_or sums f (pos 0) ≡ sum (bits_in (lane masks (block + f))) (feeds_from signals weights base count)

-- ---- the gates

-- the arrays of a record from which gate g may be read: its feeds lie within their places, and their weights within the scale
pub record GateFits (fanins : List ℕ) (weights : List ℤ) (g : ℕ) : Type 0 where
  pub place : g < 128
  pub few : get_or fanins g 0 ≤ 16
  pub light : (i : ℕ) → i < get_or fanins g 0 → nat_abs (get_or weights (16 * g + i) (pos 0)) ≤ scale

-- gate g may be put into 32 lanes from lane block on
pub record CanPut (fanins : List ℕ) (weights masks : List ℤ) (g own block : ℕ) : Type 0 where
  pub masked : Masks masks
  pub gate : GateFits fanins weights g
  pub signal : own < 256
  pub lanes : block + 32 ≤ 64

-- the masks of a gate in lanes block, block + 1, ..
abbrev pub gate_masks : List ℤ → Gate → ℕ → ℕ → ℤ
gate_masks masks gate block f = mask_of (bit (bits_in (lane masks (block + f))) gate)
