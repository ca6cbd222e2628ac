-- The signals in the lanes: a gate put in blocks of 32 lanes, and the inputs and the gates that are left, lane by lane as in a single
-- reading. Assumes nothing.
use mathlib.Core.Path.{◌≡◌, refl, sym, ap, subst}
use mathlib.Core.Bool.{Bool}
use mathlib.Core.List.{List}
use Prim.Native.Nat.{ℕ, ◌+◌, ◌*◌, ◌≤◌, ◌<◌}
use native.Mathlib.Omega.{arith}
use lib.IntN.{ℤ, pos}
use lib.ListN.{length, get_or}
use Rattle.basics.specs.Lists.{tab}
use Rattle.basics.specs.ListLaws.{all_at}
use Rattle.network.specs.Threshold.{Gate, bit, run, frame, fits_frame}
use Rattle.network.specs.Places.{Pasted}
use Rattle.network_places.specs.PasteLaws.{pasted_join, pasted_as}
use Rattle.frame_reading.specs.Evaluation.{bits_in}
use Rattle.frame_reading.proofs.SignalLaws.{Inputs, inputs_none, inputs_next, inputs_all, GatesLeft, gates_none, gates_next, gates_all}
use Rattle.frame_lanes.specs.Lanes.{mask_of, lane, Masks, gate_masks}
use Rattle.frame_lanes.specs.LaneLaws.{length_lane}
use Rattle.frame_pass.specs.Lanes.{Blank, LanesPut, Lanes, CanPutInputs}
use Rattle.frame_pass.proofs.LaneLaws.{masks_none, lane_none, lane_kept, put_all}

-- ---- one gate

module _ {old mid : List ℤ} (own : ℕ) (gate : Gate) (m : Masks old) (low : own < 256)
    (h : Pasted (pos 0) (64 * own + 0) 32 (gate_masks old gate 0) old mid) where
  first_block : Pasted (pos 0) (64 * own) 32 (λ f. mask_of (bit (bits_in (lane old f)) gate)) old mid
  first_block = pasted_as h (let e : 64 * own + 0 ≡ 64 * own = omega arith in e)
      (λ f l. ap (λ (n : ℕ). mask_of (bit (bits_in (lane old n)) gate)) (let e : 0 + f ≡ f = omega arith in e))

  -- one block, for up to 32 lanes
  pub gate_narrow : {n : ℕ} → n ≤ 32 → LanesPut own n (λ f. bit (bits_in (lane old f)) gate) old mid
  gate_narrow few = put_all (λ f. bit (bits_in (lane old f)) gate) m first_block low few (omega arith)

  -- both blocks, of which the second is as it was when the first is put
  pub gate_wide : {n : ℕ} {new : List ℤ} → n ≤ 64 → Pasted (pos 0) (64 * own + 32) 32 (gate_masks mid gate 32) mid new
      → LanesPut own n (λ f. bit (bits_in (lane old f)) gate) old new
  gate_wide few k =
      let second = pasted_as k refl
      (λ f l. ap (λ (a : List Bool). mask_of (bit (bits_in a) gate)) (lane_kept own (32 + f) first_block (omega arith) (omega arith) (omega arith))) in
      put_all (λ f. bit (bits_in (lane old f)) gate) m (pasted_join first_block second) low few (omega arith)

-- ---- the inputs

-- i inputs of each frame are in its lane
pub record InputLanes (frames : List ℕ) (i : ℕ) (masks : List ℤ) : Type 0 where
  pub masked : Masks masks
  pub bits : (f : ℕ) → f < length frames → Inputs (get_or frames f 0) i (lane masks f)

pub input_lanes_none : {masks : List ℤ} (frames : List ℕ) → Blank masks → InputLanes frames 0 masks
input_lanes_none frames h = record {
  masked = masks_none h;
  bits = λ f l. subst (Inputs (get_or frames f 0) 0) (sym (lane_none f h)) (inputs_none (get_or frames f 0));
}

pub input_lanes_next : {frames : List ℕ} {i : ℕ} {old new : List ℤ} → InputLanes frames i old → i < 40
    → LanesPut i (length frames) (λ f. frame (get_or frames f 0) i) old new → InputLanes frames (i + 1) new
unfolding frame
input_lanes_next {frames} {i} {old} {new} h k p = record {
  masked = p.masked;
  bits = λ f l. subst (Inputs (get_or frames f 0) (i + 1)) (sym (p.bits f l)) (inputs_next (h.bits f l) (omega arith));
}

pub input_lanes_all : {frames : List ℕ} {inputs : ℕ} {old masks : List ℤ} → InputLanes frames inputs masks → CanPutInputs old frames inputs
    → Lanes (length frames) (λ f. frame (get_or frames f 0)) masks
input_lanes_all {frames} {inputs} h can = record {
  masked = h.masked;
  bits = λ f l. inputs_all (h.bits f l) (all_at (fits_frame inputs) frames 0 can.fit f l);
}

-- ---- the gates

-- in each of n lanes the gates from g on are left
pub record GateLanes (gate : ℕ → Gate) (inputs gates n : ℕ) (old : List ℤ) (g : ℕ) (masks : List ℤ) : Type 0 where
  pub masked : Masks masks
  pub left : (f : ℕ) → f < n → GatesLeft gate inputs gates (run inputs (tab gates gate) (bits_in (lane old f))) g (lane masks f)

module _ {gate : ℕ → Gate} {inputs gates n : ℕ} where
  pub gate_lanes_none : {old : List ℤ} → Masks old → GateLanes gate inputs gates n old 0 old
  gate_lanes_none {old} m = record { masked = m; left = λ f l. gates_none (bits_in (lane old f)) (lane old f) (length_lane old f) refl }

  pub gate_lanes_next : {old masks new : List ℤ} {g : ℕ} → GateLanes gate inputs gates n old g masks → g < gates → inputs + g < 256
      → LanesPut (inputs + g) n (λ f. bit (bits_in (lane masks f)) (gate g)) masks new → GateLanes gate inputs gates n old (g + 1) new
  gate_lanes_next {old} {masks} {new} {g} h k l p = record {
    masked = p.masked;
    left = λ f q. subst (GatesLeft gate inputs gates (run inputs (tab gates gate) (bits_in (lane old f))) (g + 1)) (sym (p.bits f q))
        (gates_next (bit (bits_in (lane masks f)) (gate g)) (h.left f q) k l refl);
  }

  pub gate_lanes_all : {old masks : List ℤ} {g : ℕ} → GateLanes gate inputs gates n old g masks → gates ≤ g
      → Lanes n (λ f. run inputs (tab gates gate) (bits_in (lane old f))) masks
  gate_lanes_all h k = record { masked = h.masked; bits = λ f l. gates_all (h.left f l) k }
