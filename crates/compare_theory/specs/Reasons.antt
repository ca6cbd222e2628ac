-- Internal: partial assignments whose bits rest on decisions. A mask has a bit for each decision, and an assignment meets some of the
-- decisions. Nothing is proved here.
use Rattle.std.specs.Prelude.{◌≡◌, ◌⊎◌, Bool, true, List, ℕ, ◌+◌, ◌≤◌, ◌<◌, ℤ, pos, nat_abs, get_or, length}
use Rattle.network.specs.Threshold.{Assignment, bit, frame}
use Rattle.compare_theory.specs.Joint.{fanin, gate_of_rows, Allows}
use Rattle.compare_theory.specs.Spans.{least, most, least_at, most_at, least_sum, most_sum, RoomyAll}

-- ---- decisions

-- every decision of the mask is met
pub record Meets (met : ℕ → Bool) (mask : ℕ) : Type 0 where
  pub each : (d : ℕ) → frame mask d ≡ true → met d ≡ true

-- ρ extends the bits as far as it meets the decisions on which they rest
pub record Rests (met : ℕ → Bool) (ρ : Assignment) (bits rests : List ℕ) : Type 0 where
  pub long : length bits ≡ 296
  pub long_rests : length rests ≡ 296
  pub at : (s : ℕ) → s < 296 → Meets met (get_or rests s 0) → Allows (get_or bits s 0) (ρ s)

-- ---- the ends of a gate's sums

-- a share is what it would be with its signal open, or the decisions on which the signal's bit rests are met
abbrev pub Counted : (ℕ → Bool) → ℤ → ℤ → ℕ → Type 0
Counted met share free rest = (share ≡ free) ⊎ Meets met rest

-- the mask has what the lower end of the sum of the first i feeds rests on
pub record HoldsUp (bits rests wires : List ℕ) (weights : List ℤ) (i mask : ℕ) : Type 0 where
  pub up : (met : ℕ → Bool) → Meets met mask → (j : ℕ) → j < i
      → Counted met (least_at bits wires weights (1 + j)) (least 2 (get_or weights (1 + j) (pos 0))) (get_or rests (get_or wires (1 + j) 0) 0)

-- and what the upper end rests on
pub record HoldsDown (bits rests wires : List ℕ) (weights : List ℤ) (i mask : ℕ) : Type 0 where
  pub down : (met : ℕ → Bool) → Meets met mask → (j : ℕ) → j < i
      → Counted met (most_at bits wires weights (1 + j)) (most 2 (get_or weights (1 + j) (pos 0))) (get_or rests (get_or wires (1 + j) 0) 0)

-- the least and the greatest sum of the gate of two rows, how large they are, and masks that hold them
pub record EndsOf (bits rests wires : List ℕ) (weights : List ℤ) (least most : ℤ) (up down : ℕ) : Type 0 where
  pub least_is : least ≡ least_sum bits wires weights
  pub most_is : most ≡ most_sum bits wires weights
  pub least_small : nat_abs least ≤ 16000000
  pub most_small : nat_abs most ≤ 16000000
  pub holds_up : HoldsUp bits rests wires weights (fanin wires) up
  pub holds_down : HoldsDown bits rests wires weights (fanin wires) down

-- ---- what a rule leaves

-- ρ gives a signal the bit of the gate of two rows
pub record FitsRows (wires : List ℕ) (weights : List ℤ) (signal : ℕ) (ρ : Assignment) : Type 0 where
  pub own_bit : ρ signal ≡ bit ρ (gate_of_rows wires weights)

-- bits that rest on decisions as before, for every assignment that fits; with code 2, none that fits meets the decisions `why`
pub record Propagated (Fits : Assignment → Type 0) (bits rests bits' rests' : List ℕ) (code why : ℕ) : Type 0 where
  pub kept : (met : ℕ → Bool) (ρ : Assignment) → Fits ρ → Rests met ρ bits rests → Rests met ρ bits' rests'
  pub none : code ≡ 2 → (met : ℕ → Bool) (ρ : Assignment) → Fits ρ → Rests met ρ bits rests → Meets met why → ⊥

-- the feeds of a gate settled: bits that rest on decisions as before, for every assignment that is roomy if the decisions `why` are met
pub record FeedsSettled (bits rests wires : List ℕ) (weights : List ℤ) (goal : ℕ) (room : ℤ) (why : ℕ) (bits' rests' : List ℕ) : Type 0 where
  pub kept : (met : ℕ → Bool) (ρ : Assignment) → (Meets met why → RoomyAll ρ bits wires weights goal room)
      → Rests met ρ bits rests → Rests met ρ bits' rests'
