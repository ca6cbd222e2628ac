-- Collapses and sweeps of literal networks, and pairs and merges on boards of version 2 whose two margins differ: document 01, "Pair, drop,
-- collapse, sweep", and document 02, No. 8. The inputs x, y and z have the signals 0, 1 and 2. Nothing is proved here.
use Rattle.std.specs.Prelude.{◌≡◌, List, [], ◌∷◌, map, ℕ, pos}
use Rattle.basics.specs.Refusals.{Answer, accepted, refused}
use Rattle.network.specs.Threshold.{Gate, Net}
use Rattle.network.specs.declared.Board.{Board}
use Rattle.fold_theory.specs.Collapse.{collapse}
use Rattle.fold_theory.specs.Sweep.{Swept, sweep}
use Rattle.fold_theory.specs.Bench.{Ask, ask_merge, ask_pair, Reply, gate, numbers, refusal, reply}
use Rattle.worked_examples.specs.Literal.{feed, gate_with, version1, version2, net_with, net_f}

-- gates on x, y and z
abbrev on_xyz : ℕ → ℕ → ℕ → ℕ → Gate
on_xyz x y z t = gate_with (feed 0 (pos x) ∷ feed 1 (pos y) ∷ feed 2 (pos z) ∷ []) (pos t)

-- ---- collapses
pub record CollapseRow : Type 0 where
  pub net : Net
  pub signal : ℕ
  pub gives : Answer Net

-- u = [4,3;5] with two readers, [z 1, u 2; 3] and [z 1, u 1; 1]; both are outputs
abbrev two_readers : Net
two_readers = net_with version1 3
    (gate_with (feed 0 (pos 4) ∷ feed 1 (pos 3) ∷ []) (pos 5) ∷ gate_with (feed 2 (pos 1) ∷ feed 3 (pos 2) ∷ []) (pos 3)
    ∷ gate_with (feed 2 (pos 1) ∷ feed 3 (pos 1) ∷ []) (pos 1) ∷ [])
    (5 ∷ 4 ∷ [])

-- each reader merged with its own pair, (1,3) and (1,5), and the outputs one lower
abbrev both_merged : Net
both_merged = net_with version1 3 (on_xyz 4 3 3 8 ∷ on_xyz 4 3 5 5 ∷ []) (4 ∷ 3 ∷ [])

-- F with its pair (1,3); the two readers; 11 for an input; 17 for an output
unfoldable pub collapses : List CollapseRow
collapses =
    record { net = net_f; signal = 3; gives = accepted (net_with version1 3 (on_xyz 4 3 3 8 ∷ []) (3 ∷ [])) }
    ∷ record { net = two_readers; signal = 3; gives = accepted both_merged }
    ∷ record { net = net_f; signal = 2; gives = refused 11 }
    ∷ record { net = net_f; signal = 4; gives = refused 17 }
    ∷ []

-- ---- sweeps
pub record SweepRow : Type 0 where
  pub net : Net
  pub limit : ℕ
  pub gives : Answer Swept

abbrev swept : Net → ℕ → Answer Swept
swept N n = accepted (record { net = N; collapses = n })

-- a gate above a gate above a gate: taken from below it becomes [6,2,3;5], taken from above it would become [6,2,1;3]
abbrev stairs : Net
stairs = net_with version1 3
    (gate_with (feed 0 (pos 2) ∷ feed 1 (pos 2) ∷ []) (pos 2) ∷ gate_with (feed 2 (pos 1) ∷ feed 3 (pos 3) ∷ []) (pos 4)
    ∷ gate_with (feed 0 (pos 2) ∷ feed 4 (pos 2) ∷ []) (pos 2) ∷ [])
    (5 ∷ [])

-- from below; no gate of the stairs but the output is without a reader, so the limit 0 leaves them; two readers are more than 1, and at most 2;
-- "B, 0 to 128"
unfoldable pub sweeps : List SweepRow
sweeps =
    record { net = stairs; limit = 128; gives = swept (net_with version1 3 (on_xyz 6 2 3 5 ∷ []) (3 ∷ [])) 2 }
    ∷ record { net = stairs; limit = 0; gives = swept stairs 0 }
    ∷ record { net = two_readers; limit = 1; gives = swept two_readers 0 }
    ∷ record { net = two_readers; limit = 2; gives = swept both_merged 1 }
    ∷ record { net = stairs; limit = 129; gives = refused 14 }
    ∷ []

-- ---- margins
pub record MarginRow : Type 0 where
  pub ask : Ask
  pub want : Reply

-- u = [16,12;20] and v = [z 4, u 8; 11] on a board
abbrev wide : Board → Net
wide b = net_with b 3
    (gate_with (feed 0 (pos 16) ∷ feed 1 (pos 12) ∷ []) (pos 20) ∷ gate_with (feed 2 (pos 4) ∷ feed 3 (pos 8) ∷ []) (pos 11) ∷ []) (4 ∷ [])

-- their pair on three boards; 20 on a fourth, since v itself has no on margin of 2
unfoldable pub margin_pairs : List MarginRow
margin_pairs =
    record { ask = ask_pair (wide (version2 1 1)); want = numbers 1 3 }
    ∷ record { ask = ask_pair (wide (version2 1 2)); want = numbers 2 6 }
    ∷ record { ask = ask_pair (wide (version2 1 3)); want = numbers 3 9 }
    ∷ record { ask = ask_pair (wide (version2 2 1)); want = refusal 20 }
    ∷ []

-- 24 for a merge that agrees and breaks a margin; one that keeps them; 15 for [16,12,4;23], which keeps them and differs from the two gates; 24
-- for [16,12,8;26], which does neither: 24 comes before 15
unfoldable pub margin_merges : List MarginRow
margin_merges =
    record { ask = ask_merge (wide (version2 1 3)) 1 3; want = refusal 24 }
    ∷ record { ask = ask_merge (wide (version2 1 3)) 3 9; want = gate (on_xyz 48 36 36 87) }
    ∷ record { ask = ask_merge (wide (version2 1 3)) 1 1; want = refusal 15 }
    ∷ record { ask = ask_merge (wide (version2 1 3)) 1 2; want = refusal 24 }
    ∷ []

-- ---- the rows are what they say
pub record Folded : Type 0 where
  pub are_collapsed : map (λ row. collapse row.net row.signal) collapses ≡ map (λ row. row.gives) collapses
  pub are_swept : map (λ row. sweep row.net row.limit) sweeps ≡ map (λ row. row.gives) sweeps
  pub have_pairs : map (λ row. reply row.ask) margin_pairs ≡ map (λ row. row.want) margin_pairs
  pub are_merged : map (λ row. reply row.ask) margin_merges ≡ map (λ row. row.want) margin_merges
