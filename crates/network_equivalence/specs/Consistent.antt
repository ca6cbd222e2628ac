-- Internal: assignments that fit a network: each gate's signal has the bit that the threshold rule gives its gate. What one network's fitting
-- assignments say of another's. Nothing is proved here.
use Rattle.std.specs.Prelude.{◌≡◌, Bool, List, [], ◌∷◌, map, ℕ, suc, ◌+◌, ◌<◌, length}
use Rattle.basics.specs.Lists.{Each}
use Rattle.network.specs.Threshold.{Gate, Net, Assignment, bit}
use Rattle.network.specs.Limits.{signals_of}

-- the bits bs stand at the signals n, n + 1, ..
abbrev pub BitsFrom : Assignment → ℕ → List Bool → Type 0
BitsFrom ρ n [] = Unit {0}
BitsFrom ρ n (b ∷ bs) = (ρ n ≡ b) × BitsFrom ρ (suc n) bs

-- ρ fits N: each gate's signal has its gate's bit
abbrev pub Fits : Assignment → Net → Type 0
Fits ρ N = BitsFrom ρ N.inputs (map (bit ρ) N.gates)

-- two assignments have the same bit at each signal of the list
abbrev pub Agree : Assignment → Assignment → List ℕ → Type 0
Agree ρ σ ss = Each (λ s. ρ s ≡ σ s) ss

-- each gate's feeds are below its signal, the first gate with signal n
abbrev pub Ordered : ℕ → List Gate → Type 0
Ordered n [] = Unit {0}
Ordered n (g ∷ gs) = Each (λ s. s < n) (signals_of g.feeds) × Ordered (suc n) gs

-- a network whose gates read only signals before them, and whose outputs are signals that it has
pub record WellFormed (N : Net) : Type 0 where
  pub ordered : Ordered N.inputs N.gates
  pub within : Each (λ s. s < N.inputs + length N.gates) N.outputs

-- ρ carried over from N to M: an assignment that fits M, with ρ's bits at the inputs and at the outputs
pub record Carried (N M : Net) (ρ : Assignment) : Type 0 where
  pub assignment : Assignment
  pub fits : Fits assignment M
  pub at_inputs : (s : ℕ) → s < M.inputs → assignment s ≡ ρ s
  pub at_outputs : map assignment M.outputs ≡ map ρ N.outputs

-- M simulates N: as many inputs, and every assignment that fits N is carried over to M
pub record Simulates (N M : Net) : Type 0 where
  pub same_inputs : N.inputs ≡ M.inputs
  pub carry : (ρ : Assignment) → Fits ρ N → Carried N M ρ
