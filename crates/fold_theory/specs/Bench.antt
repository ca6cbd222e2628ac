-- The bench gates marked P in document 01, "Bench gates", and the example of document 02, No. 2, as a table: what is asked, and what is
-- wanted. Inputs x, y and z have the signals 0, 1 and 2, u has 3 and v has 4. Nothing is proved here.
use Rattle.std.specs.Prelude.{Bool, true, false, List, [], ◌∷◌, ℕ, ℤ, pos, negsuc}
use Rattle.basics.specs.Refusals.{Answer, accepted, refused}
use Rattle.network.specs.Threshold.{Feed, Gate, Net, bit, frame}
use Rattle.network.specs.Changes.{gate_at}
use Rattle.fold_theory.specs.Merge.{edge, merged, agrees_at, merge}
use Rattle.fold_theory.specs.Pair.{Pair, pair}

-- ---- gates and networks of the table

-- the feed with signal s and weight w
abbrev on : ℕ → ℤ → Feed
on s w = record { signal = s; weight = w }

-- a gate, [weights; T]
abbrev gate_with : List Feed → ℤ → Gate
gate_with fs t = record { feeds = fs; threshold = t }

-- three inputs, u and v, and v as the output, in a file of version 1
abbrev net_with : Gate → Gate → Net
net_with gate_u gate_v = record { board = record { version = 1; on = 0; off = 1 }; inputs = 3; gates = gate_u ∷ gate_v ∷ []; outputs = 4 ∷ [] }

-- "[4,3;5]"
abbrev first_gate : Gate
first_gate = gate_with (on 0 (pos 4) ∷ on 1 (pos 3) ∷ []) (pos 5)

-- the network of file F: "u = [4,3;5], v = [y 1, u 2; 3]", with z for y
abbrev net_f : Net
net_f = net_with first_gate (gate_with (on 2 (pos 1) ∷ on 3 (pos 2) ∷ []) (pos 3))

-- P8: "u = [x 1;1], v = [x −1, u 1; 0]"
abbrev net8 : Net
net8 = net_with (gate_with (on 0 (pos 1) ∷ []) (pos 1)) (gate_with (on 0 (negsuc 0) ∷ on 3 (pos 1) ∷ []) (pos 0))

-- P9: "u = [x −1, y −1; 0], v = [x 1, y 1, u 2; 2]"
abbrev net9 : Net
net9 = net_with (gate_with (on 0 (negsuc 0) ∷ on 1 (negsuc 0) ∷ []) (pos 0)) (gate_with (on 0 (pos 1) ∷ on 1 (pos 1) ∷ on 3 (pos 2) ∷ []) (pos 2))

-- P10: "v = [u 1;1]", and u = [n;n]
abbrev net10 : ℕ → Net
net10 n = net_with (gate_with (on 0 (pos n) ∷ []) (pos n)) (gate_with (on 3 (pos 1) ∷ []) (pos 1))

-- P11: "u = [x 1, y 1; 1], v = [x 1, u 1; 2]"
abbrev net11 : Net
net11 = net_with (gate_with (on 0 (pos 1) ∷ on 1 (pos 1) ∷ []) (pos 1)) (gate_with (on 0 (pos 1) ∷ on 3 (pos 1) ∷ []) (pos 2))

-- document 02, No. 2: "u = [1,1;2], v = [u −1; 0]"
abbrev net_against : Net
net_against = net_with (gate_with (on 0 (pos 1) ∷ on 1 (pos 1) ∷ []) (pos 2)) (gate_with (on 3 (negsuc 0) ∷ []) (pos 0))

-- ---- questions and replies

-- a gate on a frame; the merge of u into v with k and l, its gate alone, and whether that gate agrees on a setting; the pair
pub data Ask : Type 0 where
  ask_gate : Gate → ℕ → Ask
  ask_merge : Net → ℕ → ℕ → Ask
  ask_merged : Net → ℕ → ℕ → Ask
  ask_agrees : Net → ℕ → ℕ → ℕ → Ask
  ask_pair : Net → Ask

-- a bit; the gate v; k and l; the number of a refusal
pub data Reply : Type 0 where
  value : Bool → Reply
  gate : Gate → Reply
  numbers : ℕ → ℕ → Reply
  refusal : ℕ → Reply

-- the gate v of the network that a merge gives, or its number
unfoldable pub merge_reply : Answer Net → Reply
merge_reply (accepted N) = gate (gate_at N 4)
merge_reply (refused c) = refusal c

-- k and l, or the number
unfoldable pub pair_reply : Answer Pair → Reply
pair_reply (accepted p) = numbers p.k p.l
pair_reply (refused c) = refusal c

-- what the definitions say
unfoldable pub reply : Ask → Reply
reply (ask_gate g n) = value (bit (frame n) g)
reply (ask_merge N k l) = merge_reply (merge N 3 4 k l)
reply (ask_merged N k l) = gate (merged (edge N 3 4) k l)
reply (ask_agrees N k l s) = value (agrees_at (edge N 3 4) k l s)
reply (ask_pair N) = pair_reply (pair N 3 4)

-- a gate of document 01, by its number after the P, or the example of a request of document 02, by the request's number
pub data Mark : Type 0 where
  P : ℕ → Mark
  No : ℕ → Mark

-- a question of the documents, its mark, and its reply there
pub record Row : Type 0 where
  pub mark : Mark
  pub ask : Ask
  pub want : Reply

-- P1 to P11 in their order, then the example of request 2
unfoldable pub bench : List Row
bench =
    record { mark = P 1; ask = ask_gate (gate_with [] (pos 0)) 0; want = value true }
    ∷ record { mark = P 2; ask = ask_gate (gate_with [] (pos 1)) 0; want = value false }
    ∷ record { mark = P 3; ask = ask_gate first_gate 1; want = value false }
    ∷ record { mark = P 3; ask = ask_gate first_gate 3; want = value true }
    ∷ record { mark = P 4; ask = ask_merge net_f 1 3; want = gate (gate_with (on 0 (pos 4) ∷ on 1 (pos 3) ∷ on 2 (pos 3) ∷ []) (pos 8)) }
    ∷ record { mark = P 5; ask = ask_merge net_f 1 2; want = refusal 15 }
    ∷ record { mark = P 5; ask = ask_merged net_f 1 2; want = gate (gate_with (on 0 (pos 4) ∷ on 1 (pos 3) ∷ on 2 (pos 2) ∷ []) (pos 7)) }
    ∷ record { mark = P 5; ask = ask_agrees net_f 1 2 3; want = value false }
    ∷ record { mark = P 6; ask = ask_pair net_f; want = numbers 1 3 }
    ∷ record { mark = P 7; ask = ask_merge net_f 1 32; want = gate (gate_with (on 0 (pos 4) ∷ on 1 (pos 3) ∷ on 2 (pos 32) ∷ []) (pos 37)) }
    ∷ record { mark = P 7; ask = ask_merge net_f 1 33; want = refusal 14 }
    ∷ record { mark = P 8; ask = ask_merge net8 1 1; want = gate (gate_with [] (pos 0)) }
    ∷ record { mark = P 9; ask = ask_pair net9; want = refusal 16 }
    ∷ record { mark = P 10; ask = ask_merge (net10 500000) 2 1; want = gate (gate_with (on 0 (pos 1000000) ∷ []) (pos 1000000)) }
    ∷ record { mark = P 10; ask = ask_merge (net10 500001) 2 1; want = refusal 6 }
    ∷ record { mark = P 11; ask = ask_merge net11 1 1; want = gate (gate_with (on 0 (pos 2) ∷ on 1 (pos 1) ∷ []) (pos 2)) }
    ∷ record { mark = No 2; ask = ask_merge net_against 1 1; want = gate (gate_with (on 0 (negsuc 0) ∷ on 1 (negsuc 0) ∷ []) (negsuc 0)) }
    ∷ []
