-- What the call on a whole file answers, and what it leaves in the lent numbers. Nothing is proved here.
use Rattle.std.specs.Prelude.{◌≡◌, List, ◌∷◌, ℕ, ◌^◌, length, get_or, drop}
use Rattle.basics.specs.Refusals.{Answer, accepted, refused, code_of}
use Rattle.network.specs.Threshold.{Net}
use Rattle.fold_theory.specs.Merge.{edge, distinct, agrees_at, merge}
use Rattle.pair_witness.specs.Fewest.{Fewest}

-- on the network that was read, "with the merge's own number"; only with 15 a setting is put into place 0, with the fewest ones of those
-- that differ, and the places after it stay as they were
pub record WitnessPut (N : Net) (u v k l : ℕ) (before after : List ℕ) (number : ℕ) : Type 0 where
  pub number_is : number ≡ code_of (merge N u v k l)
  pub kept : (number ≡ 15 → ⊥) → after ≡ before
  pub put : number ≡ 15 → after ≡ get_or after 0 0 ∷ drop 1 before
  pub shown : number ≡ 15 → Fewest (2 ^ length (distinct (edge N u v))) (agrees_at (edge N u v) k l) (get_or after 0 0)

-- the file's refusal, or 18, comes first: its number, and everything as it was
abbrev pub WitnessLeft : Answer Net → ℕ → ℕ → ℕ → ℕ → List ℕ → List ℕ → ℕ → Type 0
WitnessLeft (accepted N) u v k l before after number = WitnessPut N u v k l before after number
WitnessLeft (refused c) u v k l before after number = (number ≡ c) × (after ≡ before)
