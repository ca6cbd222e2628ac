-- The open interval in which no sum of some of a list of weights may lie. Document 02, No. 8. Nothing is proved here.
use Rattle.std.specs.Prelude.{Bool, ◌||◌, ℕ, ℤ, pos, ◌+ℤ◌, ◌-ℤ◌}
use Rattle.basics.specs.Library.{le_z}

-- z does not lie above floor and below ceiling
unfoldable pub apart : ℤ → ℤ → ℤ → Bool
apart floor ceiling z = le_z ceiling z || le_z z floor

-- a sum does not "lie above T − off and below T + on"
unfoldable pub outside : ℕ → ℕ → ℤ → ℤ → Bool
outside on off threshold z = apart (threshold -ℤ pos off) (threshold +ℤ pos on) z
