-- Internal: what a pass puts into the lanes: the inputs, the gates and the output words. Nothing is proved here.
use Rattle.std.specs.Prelude.{◌≡◌, Bool, true, List, map, ℕ, ◌≤◌, ◌<◌, ℤ, pos, length, get_or, set}
use Rattle.basics.specs.Lists.{all, tab}
use Rattle.network.specs.Threshold.{Assignment, fits_frame, word_of}
use Rattle.frame_reading.specs.Evaluation.{bits_in}
use Rattle.frame_lanes.specs.Lanes.{lane, Masks, GateFits}

-- ---- masks and lanes

-- 16,384 places, each with 0
pub record Blank (masks : List ℤ) : Type 0 where
  pub long : length masks ≡ 16384
  pub zero : (p : ℕ) → get_or masks p (pos 0) ≡ pos 0

-- in each of the first n lanes signal s has the bit that b says, and every other signal has the bit that it had
pub record LanesPut (s n : ℕ) (b : ℕ → Bool) (old new : List ℤ) : Type 0 where
  pub masked : Masks new
  pub bits : (f : ℕ) → f < n → lane new f ≡ set (lane old f) s (b f)

-- each of the first n lanes holds the assignment that is said for it
pub record Lanes (n : ℕ) (all : ℕ → Assignment) (new : List ℤ) : Type 0 where
  pub masked : Masks new
  pub bits : (f : ℕ) → f < n → bits_in (lane new f) ≡ all f

-- ---- the inputs

-- input i of each frame may be put
pub record CanPutInput (masks : List ℤ) (frames : List ℕ) (i : ℕ) : Type 0 where
  pub masked : Masks masks
  pub few : length frames ≤ 64
  pub input : i < 40

-- the inputs of each frame may be put: no frame has a bit past them
pub record CanPutInputs (masks : List ℤ) (frames : List ℕ) (inputs : ℕ) : Type 0 where
  pub blank : Blank masks
  pub few : length frames ≤ 64
  pub few_inputs : inputs ≤ 40
  pub fit : all (fits_frame inputs) frames ≡ true

-- ---- the gates

-- the counts lie within the arrays, every gate may be read, and the masks stand
pub record CanRunLanes (fanins : List ℕ) (weights masks : List ℤ) (inputs gates lanes : ℕ) : Type 0 where
  pub masked : Masks masks
  pub few_inputs : inputs ≤ 40
  pub few_gates : gates ≤ 128
  pub few_lanes : lanes ≤ 64
  pub gate : (g : ℕ) → g < gates → GateFits fanins weights g

-- ---- the outputs

-- the output words of the first n lanes
pub record LaneWords (masks : List ℤ) (driver : ℕ → ℕ) (outputs n : ℕ) (words : List ℕ) : Type 0 where
  pub long : length words ≡ 64
  pub word : (f : ℕ) → f < n → get_or words f 0 ≡ word_of (map (bits_in (lane masks f)) (tab outputs driver))
