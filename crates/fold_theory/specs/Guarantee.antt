-- What is claimed of merges, pairs, collapses and sweeps. Nothing is proved here.
use Rattle.std.specs.Prelude.{◌≡◌, ◌≢◌, ◌⊎◌, ℕ, ◌+◌, ◌^◌, ◌≤◌, ◌<◌, T, length}
use Rattle.basics.specs.Lists.{Each}
use Rattle.basics.specs.Refusals.{Passed}
use Rattle.network.specs.Threshold.{Net, Assignment, bit}
use Rattle.network.specs.Changes.{gate_at}
use Rattle.network.specs.Limits.{is_gate, Keeps}
use Rattle.fold_theory.specs.Merge.{Edge, edge, reads, distinct, merged, composed, setting, limits}
use Rattle.fold_theory.specs.Pair.{Pair}
use Rattle.fold_theory.specs.Sweep.{readers}

-- ---- merges

-- merged gate and composed pair have the same bit on every setting of the distinct feeds
abbrev pub Alike : Edge → ℕ → ℕ → Type 0
Alike e k l = (s : ℕ) → s < 2 ^ length (distinct e) → bit (setting (distinct e) s) (merged e k l) ≡ composed (setting (distinct e) s) e

-- the same without numbers of settings: under every assignment
abbrev pub AlikeUnderAll : Edge → ℕ → ℕ → Type 0
AlikeUnderAll e k l = (ρ : Assignment) → bit ρ (merged e k l) ≡ composed ρ e

-- the merged gate keeps the margins, under every assignment
abbrev pub MarginsKept : Edge → ℕ → ℕ → Type 0
MarginsKept e k l = Keeps e.board (merged e k l)

-- ---- pairs

-- p is q, or comes before it: "the least k + l, then the least k"
abbrev pub NotAfter : Pair → Pair → Type 0
NotAfter p q = (p.k + p.l < q.k + q.l) ⊎ ((p.k + p.l ≡ q.k + q.l) × (p.k ≤ q.k))

-- "qualify: their merge is within the limits and agrees"; "a pair that breaks them [the margins] doesn't qualify"
abbrev pub Qualifying : Net → ℕ → ℕ → Pair → Type 0
Qualifying N u v p = Passed (limits N u v p.k p.l) × Alike (edge N u v) p.k p.l × MarginsKept (edge N u v) p.k p.l

-- some pair qualifies
abbrev pub HasPair : Net → ℕ → ℕ → Type 0
HasPair N u v = (p : Pair) × Qualifying N u v p

-- p qualifies, and no pair that comes before it does
pub record LeastPair (N : Net) (u v : ℕ) (p : Pair) : Type 0 where
  pub qualified : Qualifying N u v p
  pub least : (q : Pair) → Qualifying N u v q → NotAfter p q

-- ---- collapses and sweeps

-- u is a gate's signal and no output, and every gate that reads it has a pair
pub record Collapsible (N : Net) (u : ℕ) : Type 0 where
  pub is_gate_lem : T (is_gate N u)
  pub no_output : Each (λ s. s ≢ u) N.outputs
  pub all_pairs : (v : ℕ) → T (is_gate N v) → T (reads u (gate_at N v)) → HasPair N u v

-- no gate within reader limit B, outputs aside, has a pair for every gate that reads it
abbrev pub Settled : Net → ℕ → Type 0
Settled N B = (u : ℕ) → Collapsible N u → readers N u ≤ B → ⊥

-- what an accepted sweep leaves: nothing more to collapse, and a count equal to gates before minus gates after
pub record SweepDone (N : Net) (B : ℕ) (M : Net) (collapses : ℕ) : Type 0 where
  pub settled : Settled M B
  pub counted : collapses + length M.gates ≡ length N.gates
