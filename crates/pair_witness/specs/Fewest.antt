-- The fewest lit patches that show it: a setting with the fewest ones. Document 02, No. 9. Nothing is proved here.
use Rattle.std.specs.Prelude.{◌≡◌, Bool, false, ℕ, ◌≤◌, ◌<◌}
use Rattle.basics.specs.Library.{ones}

-- "a setting of the distinct signals on which the two differ, with as few of them lit as any such setting has": of n settings, where
-- `agree` says on which the two agree
pub record Fewest (n : ℕ) (agree : ℕ → Bool) (setting : ℕ) : Type 0 where
  pub inside : setting < n
  pub differs : agree setting ≡ false
  pub fewest : (other : ℕ) → other < n → agree other ≡ false → ones setting ≤ ones other
