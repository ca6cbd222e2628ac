-- Internal: what reads one signal reads another instead, and what is known of two networks all the while. Nothing is proved here.
use Rattle.std.specs.Prelude.{◌≡◌, ◌⊎◌, cond, false, List, map, ℕ, ◌+◌, ◌≤◌, ◌<◌, eqb, length, get_or}
use Rattle.basics.specs.Lists.{tab}
use Rattle.network.specs.Threshold.{Net, Assignment, output_bits}
use Rattle.network_equivalence.specs.Consistent.{Ordered}
use Rattle.compare_theory.specs.Joint.{Joint, joint, gates_of, Ready, FitsJoint, OneBit}
use Rattle.compare_theory.specs.SideBySide.{both}

-- ---- what reads q reads p instead

-- the signal that is read in the place of s
unfoldable pub moved : ℕ → ℕ → ℕ → ℕ
moved p q s = cond (eqb s q) p s

-- a row of wires: its feed count stays. A gate may get two feeds of one signal
unfoldable pub moved_row : ℕ → ℕ → List ℕ → List ℕ
moved_row p q row = tab 17 (λ i. cond (eqb i 0) (get_or row i 0) (moved p q (get_or row i 0)))

-- the joint with other wires
abbrev pub with_wires : Joint → List (List ℕ) → Joint
with_wires J wires = joint J.inputs J.gates wires J.weights

-- every gate of the joint
abbrev pub rewired : ℕ → ℕ → Joint → Joint
rewired p q J = with_wires J (map (moved_row p q) J.wires)

-- ---- what is known

-- a refutation can run on the joint, its gates read only signals before them, and n signals that it has are among `outs`
pub record WellWired (J : Joint) (outs : List ℕ) (n : ℕ) : Type 0 where
  pub ready : Ready J
  pub ordered : Ordered J.inputs (gates_of J)
  pub room : n ≤ length outs
  pub low : (j : ℕ) → j < n → get_or outs j 0 < J.inputs + J.gates

-- a joint and some signals after rewiring: what fitted it before fits it now, and has the same bits at these signals
pub record Kept (J : Joint) (outs : List ℕ) (J' : Joint) (outs' : List ℕ) : Type 0 where
  pub ready : Ready J → Ready J'
  pub wired : (n : ℕ) → WellWired J outs n → WellWired J' outs' n
  pub fits : Ready J → (ρ : Assignment) → FitsJoint J ρ → FitsJoint J' ρ
  pub bits : (ρ : Assignment) → FitsJoint J ρ → (j : ℕ) → j < length outs → ρ (get_or outs' j 0) ≡ ρ (get_or outs j 0)
  pub long : length outs' ≡ length outs

-- of the first n outputs the two signals of each are one, or have one bit
abbrev pub Matched : ℕ → List ℕ → Joint → List ℕ → Type 0
Matched n drivers J outs = (j : ℕ) → j < n → (get_or drivers j 0 ≡ get_or outs j 0) ⊎ OneBit J (get_or drivers j 0) (get_or outs j 0)

-- ---- two networks

-- the joint stands for two networks: on every setting of the inputs the bits of both fit it, and those of B's outputs are at the signals `outs`
pub record StandsFor (A B : Net) (J : Joint) (outs : List ℕ) : Type 0 where
  pub wired : WellWired J outs (length B.outputs)
  pub fits : (ρ : Assignment) → FitsJoint J (both A B ρ)
  pub outputs : (ρ : Assignment) (j : ℕ) → j < length B.outputs → both A B ρ (get_or outs j 0) ≡ get_or (output_bits B ρ) j false
