-- Internal: what the levels go by on an array. Nothing is proved here.
use Rattle.std.specs.Prelude.{List, ℕ, get_or}

-- the levels that an array holds: signal s has the level at place s, and 0 past the end
abbrev pub levels_in : List ℕ → ℕ → ℕ
levels_in a = λ s. get_or a s 0
