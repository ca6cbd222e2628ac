-- Internal: what the lanes go by: a row of 32 masks for each signal of a joint, one for each of 32 frames; the inputs and the gates in them.
-- Nothing is proved here.
use Rattle.std.specs.Prelude.{◌≡◌, Bool, List, [], ℕ, ◌+◌, ◌≤◌, ◌<◌, ℤ, pos, nat_abs, length, get_or}
use Rattle.network.specs.Threshold.{Assignment, sum, assign, run, frame}
use Rattle.network.specs.Record.{feeds_from}
use Rattle.frame_lanes.specs.Lanes.{mask_of, is_on}
use Rattle.compare_theory.specs.Joint.{Joint, fanin, gates_of}

-- ---- masks and lanes

-- the bit of signal s in lane f, by the masks of all signals
unfoldable pub lane_bits : List (List ℤ) → ℕ → Assignment
lane_bits lanes f s = is_on (get_or (get_or lanes s []) f (pos 0))

-- a row of 32 masks: lane f has the bit that b says
pub record MaskRow (b : ℕ → Bool) (row : List ℤ) : Type 0 where
  pub long : length row ≡ 32
  pub mask : (f : ℕ) → f < 32 → get_or row f (pos 0) ≡ mask_of (b f)

-- 296 rows of masks, one for each signal
pub record Masked (lanes : List (List ℤ)) : Type 0 where
  pub rows : length lanes ≡ 296
  pub row : (s : ℕ) → s < 296 → MaskRow (λ f. lane_bits lanes f s) (get_or lanes s [])

-- in each lane signal s has the bit that b says, and every other signal has the bit that it had
pub record LanesPut (s : ℕ) (b : ℕ → Bool) (old new : List (List ℤ)) : Type 0 where
  pub masked : Masked new
  pub bits : (f : ℕ) → f < 32 → lane_bits new f ≡ assign (lane_bits old f) s (b f)

-- ---- a gate's sums

-- a row of masks, and adding a weight to any of the sums stays within 32 bits
pub record CanAdd (sums row : List ℤ) (weight : ℤ) : Type 0 where
  pub masked : (f : ℕ) → f < 32 → get_or row f (pos 0) ≡ mask_of (is_on (get_or row f (pos 0)))
  pub light : nat_abs weight ≤ 1000000
  pub small : (f : ℕ) → f < 32 → nat_abs (get_or sums f (pos 0)) ≤ 15000000

-- the sums of the gate of two rows, in 32 lanes
pub record RowSums (lanes : List (List ℤ)) (wires : List ℕ) (weights sums : List ℤ) : Type 0 where
  pub total : (f : ℕ) → f < 32 → get_or sums f (pos 0) ≡ sum (lane_bits lanes f) (feeds_from wires weights 1 (fanin wires))

-- ---- the inputs and the gates

-- the inputs of lane f are those of the frame first + f
pub record FramesPut (inputs first : ℕ) (lanes : List (List ℤ)) : Type 0 where
  pub masked : Masked lanes
  pub bits : (f : ℕ) → f < 32 → (i : ℕ) → i < inputs → lane_bits lanes f i ≡ frame (first + f) i

-- in each lane the gates of the joint have run
pub record GatesRun (J : Joint) (old new : List (List ℤ)) : Type 0 where
  pub masked : Masked new
  pub bits : (f : ℕ) → f < 32 → lane_bits new f ≡ run J.inputs (gates_of J) (lane_bits old f)
