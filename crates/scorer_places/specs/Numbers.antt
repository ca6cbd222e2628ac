-- Internal: the numbers of a sheet in the order of their places, and numbers copied to the front of a list. Nothing is proved here.
use Rattle.std.specs.Prelude.{◌≡◌, List, ◌∷◌, ◌++◌, ℕ, ◌≤◌, length, take, drop}
use Rattle.scorer_tally.specs.declared.Sheet.{Sheet}

unfoldable pub sheet_numbers : Sheet → List ℕ
sheet_numbers s = s.balls ∷ s.scored ∷ (s.felled ++ s.scores)

-- after is before with the first n numbers of a list copied to its front
pub record CopiedToFront (numbers before after : List ℕ) (n : ℕ) : Type 0 where
  pub within : n ≤ length numbers
  pub front : after ≡ take n numbers ++ drop n before
  pub long : length after ≡ length before
