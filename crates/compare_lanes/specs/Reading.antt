-- Internal: what reading frames of a joint asks for and finds: whether the two signals of each output have one bit. Nothing is proved here.
use Rattle.std.specs.Prelude.{◌≡◌, List, ℕ, ◌+◌, ◌^◌, ◌≤◌, ◌<◌, ℤ, pos, get_or, Option, MatchOption}
use Rattle.network.specs.Threshold.{Assignment, frame}
use Rattle.network_equivalence.specs.Consistent.{Ordered}
use Rattle.compare_theory.specs.Joint.{Joint, gates_of, Ready, FitsJoint}
use Rattle.compare_lanes.specs.Lanes.{lane_bits}

-- ---- in the lanes

-- both signals of each output have one bit
abbrev pub SameBits : Assignment → List ℕ → List ℕ → ℕ → Type 0
SameBits ρ drivers outs outputs = (j : ℕ) → j < outputs → ρ (get_or drivers j 0) ≡ ρ (get_or outs j 0)

-- both signals of each output are among the 296
pub record CanCompare (drivers outs : List ℕ) (outputs : ℕ) : Type 0 where
  pub few : outputs ≤ 16
  pub driver : (j : ℕ) → j < outputs → get_or drivers j 0 < 296
  pub out : (j : ℕ) → j < outputs → get_or outs j 0 < 296

-- a place at which two rows differ, or none if there is none
abbrev pub RowsApart : List ℤ → List ℤ → Option ℕ → Type 0
RowsApart a b r = MatchOption r ((f : ℕ) → f < 32 → get_or a f (pos 0) ≡ get_or b f (pos 0))
    (λ f. (f < 32) × (get_or a f (pos 0) ≡ get_or b f (pos 0) → ⊥))

-- a lane in which the two signals of an output are apart, or none if there is none
abbrev pub LaneApart : List (List ℤ) → List ℕ → List ℕ → ℕ → Option ℕ → Type 0
LaneApart lanes drivers outs outputs r = MatchOption r ((f : ℕ) → f < 32 → SameBits (lane_bits lanes f) drivers outs outputs)
    (λ f. (f < 32) × (SameBits (lane_bits lanes f) drivers outs outputs → ⊥))

-- ---- on frames

-- each gate's feeds come before it, there are at most 16 outputs, and both signals of each output are there
pub record Readable (J : Joint) (drivers outs : List ℕ) (outputs : ℕ) : Type 0 where
  pub ready : Ready J
  pub ordered : Ordered J.inputs (gates_of J)
  pub few_outputs : outputs ≤ 16
  pub driver : (j : ℕ) → j < outputs → get_or drivers j 0 < J.inputs + J.gates
  pub out : (j : ℕ) → j < outputs → get_or outs j 0 < J.inputs + J.gates

-- both signals of each output have one bit on frame x
pub record SameOutputs (J : Joint) (drivers outs : List ℕ) (outputs x : ℕ) : Type 0 where
  pub same : (ρ : Assignment) → FitsJoint J ρ → ((i : ℕ) → i < J.inputs → ρ i ≡ frame x i) → SameBits ρ drivers outs outputs

-- of the frames from one on, below an end, none was met on which an output's two signals are apart, or this one
abbrev pub FramesRead : Joint → List ℕ → List ℕ → ℕ → ℕ → ℕ → Option ℕ → Type 0
FramesRead J drivers outs outputs from end met = MatchOption met ((x : ℕ) → from ≤ x → x < end → SameOutputs J drivers outs outputs x)
    (λ x. (x < 2 ^ J.inputs) × (SameOutputs J drivers outs outputs x → ⊥))
