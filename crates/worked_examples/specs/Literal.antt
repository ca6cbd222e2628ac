-- Literal networks: how the examples write feeds, gates, boards and networks, and file F of document 01 as bytes and as a network. Nothing is
-- proved here.
use Rattle.std.specs.Prelude.{List, [], ◌∷◌, ℕ, ℤ, pos}
use Rattle.network.specs.Threshold.{Feed, Gate, Net}
use Rattle.network.specs.declared.Board.{Board}

-- a signal with its weight
abbrev pub feed : ℕ → ℤ → Feed
feed s w = record { signal = s; weight = w }

-- [weights; T]
abbrev pub gate_with : List Feed → ℤ → Gate
gate_with fs t = record { feeds = fs; threshold = t }

-- "Version 1 means 0 and 1"
abbrev pub version1 : Board
version1 = record { version = 1; on = 0; off = 1 }

-- version 2 with an on margin and an off margin
abbrev pub version2 : ℕ → ℕ → Board
version2 above below = record { version = 2; on = above; off = below }

abbrev pub net_with : Board → ℕ → List Gate → List ℕ → Net
net_with b i gs os = record { board = b; inputs = i; gates = gs; outputs = os }

-- file F
abbrev pub bytes_f : List ℕ
bytes_f =
    80 ∷ 77 ∷ 78 ∷ 1 ∷ 0 ∷ 3 ∷ 2 ∷ 1
    ∷ 2 ∷ 5 ∷ 0 ∷ 0 ∷ 0 ∷ 0 ∷ 4 ∷ 0 ∷ 0 ∷ 0 ∷ 1 ∷ 3 ∷ 0 ∷ 0 ∷ 0
    ∷ 2 ∷ 3 ∷ 0 ∷ 0 ∷ 0 ∷ 2 ∷ 1 ∷ 0 ∷ 0 ∷ 0 ∷ 3 ∷ 2 ∷ 0 ∷ 0 ∷ 0
    ∷ 4 ∷ []

-- "F's pair, u = [4,3;5], v = [y 1, u 2; 3]"
abbrev pub net_f : Net
net_f = net_with version1 3
    (gate_with (feed 0 (pos 4) ∷ feed 1 (pos 3) ∷ []) (pos 5) ∷ gate_with (feed 2 (pos 1) ∷ feed 3 (pos 2) ∷ []) (pos 3) ∷ []) (4 ∷ [])
