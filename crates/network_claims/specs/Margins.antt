-- The margins in the words of source document 004: under every assignment a gate that is 1 has a sum of at least T + on, and one that is 0 a sum
-- of at most T − off. Document 02, No. 8. Nothing is proved here.
use Rattle.std.specs.Prelude.{◌≡◌, true, false, ◌↔◌, ℕ, ◌≤◌, T, ◌+ℤ◌, ◌-ℤ◌, pos, length}
use Rattle.basics.specs.Library.{le_z}
use Rattle.basics.specs.Lists.{Each}
use Rattle.network.specs.Threshold.{Gate, Net, Assignment, sum, bit}
use Rattle.network.specs.Limits.{gate_ok, board_ok, is_gate, sound}
use Rattle.network.specs.Changes.{gate_at}
use Rattle.network.specs.declared.Board.{Board}

-- one gate, under one assignment of bits to signals
pub record ClearAt (b : Board) (g : Gate) (ρ : Assignment) : Type 0 where
  pub lit : bit ρ g ≡ true → T (le_z (g.threshold +ℤ pos b.on) (sum ρ g.feeds))
  pub dark : bit ρ g ≡ false → T (le_z (sum ρ g.feeds) (g.threshold -ℤ pos b.off))

-- one gate, under every assignment
abbrev pub Clear : Board → Gate → Type 0
Clear b g = (ρ : Assignment) → ClearAt b g ρ

-- every gate of a network
abbrev pub AllClear : Net → Type 0
AllClear N = (s : ℕ) → T (is_gate N s) → Clear N.board (gate_at N s)

-- a network within all the limits of a file other than the margins
pub record OtherLimits (N : Net) : Type 0 where
  pub board_ok_lem : T (board_ok N.board)
  pub few_inputs : (1 ≤ N.inputs) × (N.inputs ≤ 40)
  pub few_gates : (1 ≤ length N.gates) × (length N.gates ≤ 128)
  pub few_outputs : (1 ≤ length N.outputs) × (length N.outputs ≤ 16)
  pub all_gates : (s : ℕ) → T (is_gate N s) → T (gate_ok s (gate_at N s))
  pub all_outputs : Each (λ s. T (is_gate N s)) N.outputs

-- a network is sound exactly when it is within the other limits and all its gates keep the margins in these words
abbrev pub MarginsExact : Net → Type 0
MarginsExact N = T (sound N) ↔ (OtherLimits N × AllClear N)
