-- Internal: the gates of two networks side by side in two tables of rows, the assignments that fit them, and partial assignments. Nothing is
-- proved here.
use Rattle.std.specs.Prelude.{◌≡◌, Bool, true, false, List, [], map, ℕ, ◌+◌, ◌≤◌, ◌<◌, ℤ, pos, get_or, length}
use Rattle.basics.specs.Lists.{tab}
use Rattle.basics.specs.SizeLaws.{SizesWithin}
use Rattle.network.specs.Threshold.{Gate, Assignment, bit}
use Rattle.network.specs.Record.{feeds_from}
use Rattle.network_equivalence.specs.Consistent.{BitsFrom}

-- ---- gates in rows

-- inputs have signals 0 to inputs − 1, and gate g has signal inputs + g. Row g of `wires` has the feed count of gate g and then the signals of its
-- 16 feed places; row g of `weights` has its threshold and then the weights of these places
pub record Joint : Type 0 where
  pub inputs : ℕ
  pub gates : ℕ
  pub wires : List (List ℕ)
  pub weights : List (List ℤ)

abbrev pub joint : ℕ → ℕ → List (List ℕ) → List (List ℤ) → Joint
joint inputs gates wires weights = record { inputs = inputs; gates = gates; wires = wires; weights = weights }

-- the rows of gate g
abbrev pub wires_of : Joint → ℕ → List ℕ
wires_of J g = get_or J.wires g []

abbrev pub weights_of : Joint → ℕ → List ℤ
weights_of J g = get_or J.weights g []

-- how many feeds the gate of a row has
abbrev pub fanin : List ℕ → ℕ
fanin wires = get_or wires 0 0

-- the gate that two rows stand for
unfoldable pub gate_of_rows : List ℕ → List ℤ → Gate
gate_of_rows wires weights = record { feeds = feeds_from wires weights 1 (fanin wires); threshold = get_or weights 0 (pos 0) }

abbrev pub gate_of : Joint → ℕ → Gate
gate_of J g = gate_of_rows (wires_of J g) (weights_of J g)

abbrev pub gates_of : Joint → List Gate
gates_of J = tab J.gates (gate_of J)

-- ---- what the functions ask for

-- two rows can be summed: at most 16 feeds, each of one of 296 signals, and a threshold and weights whose sums fit 32 bits
pub record Summable (wires : List ℕ) (weights : List ℤ) : Type 0 where
  pub few : fanin wires ≤ 16
  pub there : (i : ℕ) → i < fanin wires → get_or wires (1 + i) 0 < 296
  pub small : SizesWithin 1000000 weights

-- the counts are within the tables, and every gate can be summed. That a gate's feeds come before it is not asked for
pub record Ready (J : Joint) : Type 0 where
  pub few_inputs : J.inputs ≤ 40
  pub few_gates : J.gates ≤ 256
  pub within : J.gates ≤ length J.wires
  pub gate : (g : ℕ) → g < J.gates → Summable (wires_of J g) (weights_of J g)

-- ---- assignments

-- ρ fits gates, the first with signal n: each gate's signal has the bit of the threshold rule
abbrev pub FitsGates : Assignment → ℕ → List Gate → Type 0
FitsGates ρ n gs = BitsFrom ρ n (map (bit ρ) gs)

-- ρ fits the joint
pub record FitsJoint (J : Joint) (ρ : Assignment) : Type 0 where
  pub gate_bits : FitsGates ρ J.inputs (gates_of J)

-- two signals have one bit under every assignment that fits
pub record OneBit (J : Joint) (p q : ℕ) : Type 0 where
  pub same : (ρ : Assignment) → FitsJoint J ρ → ρ p ≡ ρ q

-- ---- partial assignments: a byte for each of 296 signals

-- a byte lets a bit through: 1 only a bit that is 1, 0 only a bit that is 0, any other byte both
pub record Allows (v : ℕ) (b : Bool) : Type 0 where
  pub lit : v ≡ 1 → b ≡ true
  pub dark : v ≡ 0 → b ≡ false

-- ρ extends a partial assignment
pub record Extends (ρ : Assignment) (bits : List ℕ) : Type 0 where
  pub long : length bits ≡ 296
  pub at : (s : ℕ) → s < 296 → Allows (get_or bits s 0) (ρ s)

-- no assignment that fits the joint extends the bits
pub record Refuted (J : Joint) (bits : List ℕ) : Type 0 where
  pub no_such : (ρ : Assignment) → FitsJoint J ρ → Extends ρ bits → ⊥
