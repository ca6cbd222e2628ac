-- Internal: places put into an array, and what is asked of signals that are raised. Nothing is proved here.
use Rattle.std.specs.Prelude.{cond, List, ℕ, ◌+◌, ◌-◌, ◌<◌, ltb, get_or}
use Rattle.basics.specs.Lists.{tab}

-- the place that moves to place p when gap places are put in from first on; size, which is past the end, for a new place
unfoldable pub source : ℕ → ℕ → ℕ → ℕ → ℕ
source size first gap p = cond (ltb p first) p (cond (ltb p (first + gap)) size (p - gap))

-- size places of a list with gap new places from first on, in which d stands
unfoldable pub with_places : {A : Type 0} → A → ℕ → ℕ → ℕ → List A → List A
with_places d size first gap xs = tab size (λ p. get_or xs (source size first gap p) d)

-- each member is below n
pub record MembersBelow (n : ℕ) (xs : List ℕ) : Type 0 where
  pub each : (p : ℕ) → get_or xs p 0 < n
