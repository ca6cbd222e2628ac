-- Internal: the rows of two gates, place by place. Nothing is proved here.
use Rattle.std.specs.Prelude.{◌≡◌, List, ℕ, ◌<◌, ℤ, pos, get_or}

-- the rows of two gates have the same numbers at the places below n
pub record SameBelow (wires : List ℕ) (weights : List ℤ) (wires' : List ℕ) (weights' : List ℤ) (n : ℕ) : Type 0 where
  pub signals : (i : ℕ) → i < n → get_or wires i 0 ≡ get_or wires' i 0
  pub numbers : (i : ℕ) → i < n → get_or weights i (pos 0) ≡ get_or weights' i (pos 0)
