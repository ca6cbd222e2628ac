-- Internal: what is settled of the two signals of each output of a joint. Nothing is proved here.
use Rattle.std.specs.Prelude.{List, ℕ, ◌+◌, ◌^◌, ◌≤◌, ◌<◌, get_or}
use Rattle.compare_theory.specs.Joint.{Joint}
use Rattle.compare_theory.specs.Wiring.{WellWired}
use Rattle.compare_lanes.specs.Reading.{SameOutputs}
use Rattle.compare_networks.specs.declared.Finding.{Finding}
use Rattle.compare_networks.specs.declared.Finding.TheVariants.{Alike, Apart, Undecided}

-- a joint with n outputs: both signals of each are there, the first network's among `drivers` and the second's among `outs`
pub record Outputs (J : Joint) (drivers outs : List ℕ) (n : ℕ) : Type 0 where
  pub wired : WellWired J outs n
  pub few : n ≤ 16
  pub driver : (j : ℕ) → j < n → get_or drivers j 0 < J.inputs + J.gates

-- the numbers of a finding: the verdict, and the frame
abbrev pub verdict_of : Finding → ℕ
verdict_of Alike = 0
verdict_of (Apart x) = 1
verdict_of Undecided = 2

abbrev pub frame_of : Finding → ℕ
frame_of Alike = 0
frame_of (Apart x) = x
frame_of Undecided = 0

-- what a finding says of them: they have one bit on every frame; on this frame some output's two signals are apart; or neither, but not with at most 20
-- inputs
abbrev pub Settled : Joint → List ℕ → List ℕ → ℕ → Finding → Type 0
Settled J drivers outs n Alike = (x : ℕ) → x < 2 ^ J.inputs → SameOutputs J drivers outs n x
Settled J drivers outs n (Apart x) = (x < 2 ^ J.inputs) × (SameOutputs J drivers outs n x → ⊥)
Settled J drivers outs n Undecided = J.inputs ≤ 20 → ⊥
