-- Single steps that were taken, one after another. Nothing is proved here.
use Rattle.std.specs.Prelude.{◌≡◌, List, [], ◌∷◌, ℕ, T}
use Rattle.basics.specs.Refusals.{accepted}
use Rattle.network.specs.Threshold.{Net}
use Rattle.network.specs.Changes.{gate_at}
use Rattle.fold_theory.specs.Merge.{merge}
use Rattle.fold_theory.specs.Collapse.{drop_gate}
use Rattle.call_theory.specs.Steps.{Step, merging, dropping, undo_of, placed}

-- "accepted merges and drops": the step is a merge or a drop that N accepts, with the gate that stood there, and M is what it leaves
abbrev pub SingleStep : Net → Step → Net → Type 0
SingleStep N (merging v g) M = (g ≡ gate_at N v) × ((u : ℕ) × (k : ℕ) × (l : ℕ) × (merge N u v k l ≡ accepted M))
SingleStep N (dropping u g) M = (g ≡ gate_at N u) × (drop_gate N u ≡ accepted M)

-- a single step from N to M, which can be taken back from M and gives N
pub record StepTaken (N : Net) (s : Step) (M : Net) : Type 0 where
  pub single : SingleStep N s M
  pub fits : T (placed M s)
  pub back : undo_of M s ≡ N

-- steps from N to M, the oldest first
abbrev pub StepsTaken : Net → List Step → Net → Type 0
StepsTaken N [] M = N ≡ M
StepsTaken N (s ∷ ss) M = (L : Net) × StepTaken N s L × StepsTaken L ss M
