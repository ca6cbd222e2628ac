-- The cut of one output. Document 02, No. 12, "Cut out one pin". Nothing is proved here.
use Rattle.std.specs.Prelude.{◌≡◌, Bool, not, cond, ◌||◌, List, [], ◌∷◌, map, ℕ, suc, ◌-◌, T, eqb, ltb, length, get_or, take}
use Rattle.basics.specs.Lists.{all}
use Rattle.basics.specs.Refusals.{Answer, accepted, ◌else◌, checks}
use Rattle.network.specs.Threshold.{Feed, Gate, Net}
use Rattle.network.specs.Limits.{is_gate, sound}
use Rattle.network.specs.Changes.{gate_at}
use Rattle.fold_theory.specs.Merge.{silent, reads}

-- ---- which gates belong to the cut

-- what is reached from a by steps: the least set that has a and, with each member, what a step leads to from it
pub data Reached (Step : ℕ → ℕ → Type 0) (a : ℕ) : ℕ → Type 0 where
  start : {s : ℕ} → s ≡ a → Reached Step a s
  next : {v s : ℕ} → Reached Step a v → Step v s → Reached Step a s

-- "from a gate one goes to its feeds, and from each feed to the gate behind it"
pub record Behind (N : Net) (v s : ℕ) : Type 0 where
  pub read : T (reads s (gate_at N v))
  pub gate : T (is_gate N s)

-- "A gate belongs to the cut if the output names it or a gate of the cut reads it"; d is the signal that the output names
abbrev pub InCut : Net → ℕ → ℕ → Type 0
InCut N d = Reached (Behind N) d

-- the members that are marked, in their order
unfoldable pub picked : {A : Type 0} → List Bool → List A → List A
picked [] xs = []
picked (m ∷ ms) [] = []
picked (m ∷ ms) (x ∷ xs) = cond m (x ∷ picked ms xs) (picked ms xs)

-- a mark for the gate with signal n, before the marks of the gates after it: "the output names it or a gate of the cut reads it"; d is the
-- signal that the output names
unfoldable pub added : ℕ → ℕ → List Gate → List Bool → List Bool
added d n gs marks = (eqb n d || not (all (silent n) (picked marks gs))) ∷ marks

-- the same set as a mark for each gate from signal n on, from the last gate down, since a gate's readers stand after it; that these are the
-- gates of InCut is claimed (Claims)
unfoldable pub belongs : ℕ → ℕ → List Gate → List Bool
belongs d n [] = []
belongs d n (g ∷ gs) = added d n gs (belongs d (suc n) gs)

-- ---- the cut network

-- how many are not marked
unfoldable pub left_out : List Bool → ℕ
left_out [] = 0
left_out (m ∷ ms) = cond m (left_out ms) (suc (left_out ms))

-- "new signals": a signal falls by the number of gates before it that are left out; the first gate has signal n
unfoldable pub new_signal : ℕ → List Bool → ℕ → ℕ
new_signal n marks s = s - left_out (take (s - n) marks)

-- a feed and a gate with other signals
unfoldable pub renamed_feed : (ℕ → ℕ) → Feed → Feed
renamed_feed f x = record { signal = f x.signal; weight = x.weight }

unfoldable pub renamed_gate : (ℕ → ℕ) → Gate → Gate
renamed_gate f g = record { feeds = map (renamed_feed f) g.feeds; threshold = g.threshold }

-- "All inputs, the margins and the file version stay, the gates of the cut keep their order with new signals, .. and there is one output": by
-- marks
unfoldable pub cut_by : Net → List Bool → ℕ → Net
cut_by N marks d = record {
  board = N.board;
  inputs = N.inputs;
  gates = map (renamed_gate (new_signal N.inputs marks)) (picked marks N.gates);
  outputs = new_signal N.inputs marks d ∷ [];
}

-- the gates of the cut
unfoldable pub cut_marks : Net → ℕ → List Bool
cut_marks N d = belongs d N.inputs N.gates

unfoldable pub cut_net : Net → ℕ → Net
cut_net N d = cut_by N (cut_marks N d) d

-- the signal that output j names
unfoldable pub named : Net → ℕ → ℕ
named N j = get_or N.outputs j 0

-- order 20, 8: "An output number that the network lacks is refused with 8, after 20"
unfoldable pub cut : Net → ℕ → Answer Net
cut N j = checks ((sound N else 20) ∷ (ltb j (length N.outputs) else 8) ∷ []) (accepted (cut_net N (named N j)))
