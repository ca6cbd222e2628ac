-- Internal: the readers of a signal by feed counts and signals alone: what the code looks at to find them. Nothing is proved here.
use Rattle.std.specs.Prelude.{Bool, not, List, map, ℕ, get_or}
use Rattle.basics.specs.Lists.{all, range, other}

-- s is one of the count members of a list from place base on
unfoldable pub occurs : List ℕ → ℕ → ℕ → ℕ → Bool
occurs xs base count s = not (all (other s) (map (λ p. get_or xs p 0) (range base count)))
