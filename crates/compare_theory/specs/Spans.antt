-- Internal: the least and the greatest sum of a gate over the assignments that extend a partial one, and what a gate's bit forces.
-- Nothing is proved here.
use Rattle.std.specs.Prelude.{Bool, cond, List, ℕ, zero, suc, ◌+◌, ◌-◌, ◌≤◌, ◌<◌, ltb, eqb, ℤ, pos, ◌+ℤ◌, ◌-ℤ◌, get_or}
use Rattle.std.specs.Int.Signed.{le_z, non_neg}
use Rattle.basics.specs.IntegerLaws.{hi, lo}
use Rattle.network.specs.Threshold.{Assignment}
use Rattle.compare_theory.specs.Joint.{fanin, Allows}

-- a ≤ b, in the form that omega reads
pub record AtMost (a b : ℤ) : Type 0 where
  pub le : hi a + lo b ≤ hi b + lo a

-- ---- what one feed adds

-- the least that a feed of weight w adds, by the byte of its signal
unfoldable pub least : ℕ → ℤ → ℤ
least zero w = pos 0
least (suc zero) w = w
least (suc (suc v)) w = cond (non_neg w) (pos 0) w

-- the most that it adds
unfoldable pub most : ℕ → ℤ → ℤ
most zero w = pos 0
most (suc zero) w = w
most (suc (suc v)) w = cond (non_neg w) w (pos 0)

-- the same for the feed at a place of two rows, and what it adds under an assignment
abbrev pub least_at : List ℕ → List ℕ → List ℤ → ℕ → ℤ
least_at bits wires weights p = least (get_or bits (get_or wires p 0) 0) (get_or weights p (pos 0))

abbrev pub most_at : List ℕ → List ℕ → List ℤ → ℕ → ℤ
most_at bits wires weights p = most (get_or bits (get_or wires p 0) 0) (get_or weights p (pos 0))

abbrev pub share_at : Assignment → List ℕ → List ℤ → ℕ → ℤ
share_at ρ wires weights p = cond (ρ (get_or wires p 0)) (get_or weights p (pos 0)) (pos 0)

-- ---- what all feeds add

-- what the n places from p on add
unfoldable pub total : (ℕ → ℤ) → ℕ → ℕ → ℤ
total share p zero = pos 0
total share p (suc n) = share p +ℤ total share (suc p) n

-- the least and the greatest sum of the gate of two rows over the assignments that extend the bits
abbrev pub least_sum : List ℕ → List ℕ → List ℤ → ℤ
least_sum bits wires weights = total (least_at bits wires weights) 1 (fanin wires)

abbrev pub most_sum : List ℕ → List ℕ → List ℤ → ℤ
most_sum bits wires weights = total (most_at bits wires weights) 1 (fanin wires)

-- ---- what the gate's rule forces

-- the gate's bit by its threshold and the ends of its sums: 1, 0, or 2 if both can be
unfoldable pub forced : ℤ → ℤ → ℤ → ℕ
forced threshold least most = cond (le_z threshold least) 1 (cond (le_z threshold most) 2 0)

abbrev pub forced_bit : List ℕ → List ℕ → List ℤ → ℕ
forced_bit bits wires weights = forced (get_or weights 0 (pos 0)) (least_sum bits wires weights) (most_sum bits wires weights)

-- how far a gate whose bit is `goal` is from a sum of the other bit, at the end of its sums that goes with its bit
unfoldable pub room_of : ℕ → ℤ → ℤ → ℤ → ℤ
room_of goal threshold least most = cond (eqb goal 1) (most -ℤ threshold) ((threshold -ℤ pos 1) -ℤ least)

abbrev pub room_at : List ℕ → List ℕ → List ℤ → ℕ → ℤ
room_at bits wires weights goal = room_of goal (get_or weights 0 (pos 0)) (least_sum bits wires weights) (most_sum bits wires weights)

-- a feed's byte after the gate's rule: an open feed that weighs more than the room goes with the gate, or against it if its weight is negative
unfoldable pub settled : ℕ → ℤ → ℕ → ℤ → ℕ
settled v w goal room = cond (ltb v 2) v (cond (le_z w room) (cond (le_z (pos 0 -ℤ room) w) v (1 - goal)) goal)

-- a feed with bit b leaves the gate its bit: against the gate's bit it weighs no more than the room
pub record Roomy (goal : ℕ) (room w : ℤ) (b : Bool) : Type 0 where
  pub against : Allows (1 - goal) b → AtMost w room
  pub along : Allows goal b → AtMost (pos 0 -ℤ room) w

-- every open feed of the gate of two rows does
pub record RoomyAll (ρ : Assignment) (bits wires : List ℕ) (weights : List ℤ) (goal : ℕ) (room : ℤ) : Type 0 where
  pub each : (i : ℕ) → i < fanin wires → 2 ≤ get_or bits (get_or wires (1 + i) 0) 0
      → Roomy goal room (get_or weights (1 + i) (pos 0)) (ρ (get_or wires (1 + i) 0))
