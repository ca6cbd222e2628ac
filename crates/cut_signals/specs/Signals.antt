-- Internal: which signals stay, and the new ones of a network's signals. Nothing is proved here.
use Rattle.std.specs.Prelude.{◌≡◌, Bool, false, ◌||◌, List, ℕ, ◌+◌, ◌-◌, ◌<◌, ltb, get_or, take}
use Rattle.cut_theory.specs.Cut.{new_signal}

-- the signal s is an input's, or that of a marked gate
unfoldable pub signal_stays : List Bool → ℕ → ℕ → Bool
signal_stays marks inputs s = ltb s inputs || get_or marks (s - inputs) false

-- numbers has the new signal of each signal
pub record NewSignals (marks : List Bool) (inputs gates : ℕ) (numbers : List ℕ) : Type 0 where
  pub each : (s : ℕ) → s < inputs + gates → get_or numbers s 0 ≡ new_signal inputs (take gates marks) s
