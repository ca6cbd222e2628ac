-- A network made from another: gates replaced, a gate removed, and a removed gate put back. Document 01, "It replaces v" and "Drop";
-- document 02, No. 5, "restores the network as it was before it, signals included". Nothing is proved here.
use Rattle.std.specs.Prelude.{cond, List, [], ◌∷◌, map, ℕ, zero, suc, ◌-◌, ltb, set, get_or}
use Rattle.network.specs.Threshold.{Feed, Gate, Net}
use Rattle.network.specs.Record.{no_gate}

-- N with other gates and outputs; all else stays
abbrev pub remade : Net → List Gate → List ℕ → Net
remade N gs os = record { board = N.board; inputs = N.inputs; gates = gs; outputs = os }

-- N with other gates
abbrev pub with_gates : Net → List Gate → Net
with_gates N gs = remade N gs N.outputs

-- the gate with signal s
unfoldable pub gate_at : Net → ℕ → Gate
gate_at N s = get_or N.gates (s - N.inputs) no_gate

-- N with g in the place of the gate with signal v
unfoldable pub with_gate : Net → ℕ → Gate → Net
with_gate N v g = with_gates N (set N.gates (v - N.inputs) g)

-- "higher signals fall by one"
unfoldable pub lowered : ℕ → ℕ → ℕ
lowered u s = cond (ltb u s) (s - 1) s

unfoldable pub lowered_feed : ℕ → Feed → Feed
lowered_feed u f = record { signal = lowered u f.signal; weight = f.weight }

unfoldable pub lowered_gate : ℕ → Gate → Gate
lowered_gate u g = record { feeds = map (lowered_feed u) g.feeds; threshold = g.threshold }

-- a list without its member i
unfoldable pub remove_at : {A : Type 0} → ℕ → List A → List A
remove_at i [] = []
remove_at zero (x ∷ xs) = xs
remove_at (suc i) (x ∷ xs) = x ∷ remove_at i xs

-- N without the gate with signal u
unfoldable pub without : Net → ℕ → Net
without N u = remade N (map (lowered_gate u) (remove_at (u - N.inputs) N.gates)) (map (lowered u) N.outputs)

-- signals at or above u rise by one
unfoldable pub raised : ℕ → ℕ → ℕ
raised u s = cond (ltb s u) s (suc s)

unfoldable pub raised_feed : ℕ → Feed → Feed
raised_feed u f = record { signal = raised u f.signal; weight = f.weight }

unfoldable pub raised_gate : ℕ → Gate → Gate
raised_gate u g = record { feeds = map (raised_feed u) g.feeds; threshold = g.threshold }

-- a list with x before its member i, or at its end
unfoldable pub insert_at : {A : Type 0} → ℕ → A → List A → List A
insert_at zero x xs = x ∷ xs
insert_at (suc i) x [] = x ∷ []
insert_at (suc i) x (y ∷ ys) = y ∷ insert_at i x ys

-- N with the gate g at signal u, which nothing reads: the inverse of `without`
unfoldable pub inserted : Net → ℕ → Gate → Net
inserted N u g = remade N (insert_at (u - N.inputs) g (map (raised_gate u) N.gates)) (map (raised u) N.outputs)
