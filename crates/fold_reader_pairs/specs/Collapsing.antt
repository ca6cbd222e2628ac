-- Internal: what becomes of each gate when gate u is collapsed into its readers, by the pairs that were found for them. The gates are given by
-- their numbers: gate g has signal inputs + g. Nothing is proved here.
use Rattle.std.specs.Prelude.{◌≡◌, cond, List, Result, Ok, Err, ◌≢◌, ℕ, ◌+◌, ◌-◌, ◌≤◌, ◌<◌, eqb, get_or}
use Rattle.basics.specs.Lists.{tab}
use Rattle.basics.specs.Refusals.{Answer, accepted, refused}
use Rattle.network.specs.Threshold.{Gate, Net}
use Rattle.network.specs.Record.{gate_of, net_of}
use Rattle.network.specs.Changes.{with_gates, without}
use Rattle.network.specs.Places.{SoundGate}
use Rattle.network.specs.declared.Board.{Board}
use Rattle.network.specs.declared.Network.{Network}
use Rattle.fold_theory.specs.Merge.{Edge, edge_of, silent, merged}
use Rattle.fold_theory.specs.Pair.{Pair, pair_of}
use Rattle.fold_theory.specs.Collapse.{merged_readers, collapse}
use Rattle.fold_reader_pairs.specs.declared.Pairs.{Pairs}
use Rattle.fold_reader_pairs.specs.declared.Refuser.{Refuser}
use Rattle.fold_reader_pairs.specs.declared.FirstRefuser.{FirstRefuser}
use Rattle.refusals.specs.Numbers.{number_of}
use Rattle.refusals.specs.declared.Refusal.{Refusal}

-- ---- one gate

-- gates u and g, g by its number, as an edge on a board
abbrev pub edge_to : Board → (ℕ → Gate) → ℕ → ℕ → ℕ → Edge
edge_to board gate inputs u g = edge_of board u (inputs + g) (gate (u - inputs)) (gate g)

-- no pair: 0 and 0
abbrev pub no_pair : Pair
no_pair = record { k = 0; l = 0 }

-- the pair of a reader of u; 0 and 0 for a gate that does not read u
unfoldable pub reader_pair : Edge → Answer Pair
reader_pair e = cond (silent e.u e.gate_v) (accepted no_pair) (pair_of e)

-- the gate with its pair: merged, or as it was where the pair is 0 and 0
unfoldable pub with_pair : Edge → Pair → Gate
with_pair e p = cond (eqb p.k 0) e.gate_v (merged e p.k p.l)

-- ---- all gates

-- what becomes of the gates, or the first refusal
abbrev pub all_merged : Board → (ℕ → Gate) → ℕ → ℕ → ℕ → Answer (List Gate)
all_merged board gate inputs gates u = merged_readers board u (gate (u - inputs)) inputs (tab gates gate)

-- the pair that was found for gate g
abbrev pub pair_at : Pairs → ℕ → Pair
pair_at p g = record { k = get_or p.ks g 0; l = get_or p.ls g 0 }

-- p has the pair of every gate
pub record AllPairs (board : Board) (gate : ℕ → Gate) (inputs gates u : ℕ) (p : Pairs) : Type 0 where
  pub each : (g : ℕ) → g < gates → reader_pair (edge_to board gate inputs u g) ≡ accepted (pair_at p g)

-- a gate by its number is one whose pair is refused
pub record ReaderRefuses (board : Board) (gate : ℕ → Gate) (inputs gates u : ℕ) (x : Refuser) : Type 0 where
  pub within : x.reader < gates
  pub refusal_is : reader_pair (edge_to board gate inputs u x.reader) ≡ refused (number_of x.refusal)

-- no gate before the nth is refused its pair
pub record PairedBelow (board : Board) (gate : ℕ → Gate) (inputs u n : ℕ) : Type 0 where
  pub each : (g c : ℕ) → g < n → reader_pair (edge_to board gate inputs u g) ≢ refused c

-- m has the pair of every gate, and no pair past them; or the first gate whose pair is refused, the pair of every gate before it, and no pair
-- from there on. Nothing in m is free
pub record ReaderPairs (r : Network) (u : ℕ) (m : Result Pairs FirstRefuser) : Type 0 where
  pub found : (p : Pairs) → m ≡ Ok p → AllPairs r.board (gate_of r) r.inputs r.gates u p
  pub spare : (p : Pairs) → m ≡ Ok p → (g : ℕ) → r.gates ≤ g → pair_at p g ≡ no_pair
  pub refuses : (x : FirstRefuser) → m ≡ Err x → ReaderRefuses r.board (gate_of r) r.inputs r.gates u x.refuser
  pub first : (x : FirstRefuser) → m ≡ Err x → PairedBelow r.board (gate_of r) r.inputs u x.refuser.reader
  pub before : (x : FirstRefuser) → m ≡ Err x → (g : ℕ) → g < x.refuser.reader
      → reader_pair (edge_to r.board (gate_of r) r.inputs u g) ≡ accepted (pair_at x.pairs g)
  pub past : (x : FirstRefuser) → m ≡ Err x → (g : ℕ) → x.refuser.reader ≤ g → pair_at x.pairs g ≡ no_pair

-- m has the pair of every gate, or else a gate whose pair is refused, not always the first
pub record TriedPairs (r : Network) (u : ℕ) (m : Result Pairs Refuser) : Type 0 where
  pub found : (p : Pairs) → m ≡ Ok p → AllPairs r.board (gate_of r) r.inputs r.gates u p
  pub refuses : (x : Refuser) → m ≡ Err x → ReaderRefuses r.board (gate_of r) r.inputs r.gates u x

-- ---- a record

-- the gates with their pairs
abbrev pub gates_with_pairs : Board → (ℕ → Gate) → ℕ → ℕ → ℕ → Pairs → List Gate
gates_with_pairs board gate inputs gates u p = tab gates (λ g. with_pair (edge_to board gate inputs u g) (pair_at p g))

-- the network of a record, with gate u collapsed into its readers by their pairs
unfoldable pub collapsed_by : Network → ℕ → Pairs → Net
collapsed_by r u p = without (with_gates (net_of r) (gates_with_pairs r.board (gate_of r) r.inputs r.gates u p)) u

-- u is a gate of a sound record, and p has the pairs of all its readers
pub record CollapsesBy (r : Network) (u : ℕ) (p : Pairs) : Type 0 where
  pub own : SoundGate r u
  pub pairs : AllPairs r.board (gate_of r) r.inputs r.gates u p

-- m has the pairs with which the gate with signal s is collapsed, or the collapse's refusal
pub record PairsTried (r : Network) (s : ℕ) (m : Result Pairs Refusal) : Type 0 where
  pub refuses : (e : Refusal) → m ≡ Err e → collapse (net_of r) s ≡ refused (number_of e)
  pub accepts : (p : Pairs) → m ≡ Ok p → collapse (net_of r) s ≡ accepted (collapsed_by r s p)
  pub folds : (p : Pairs) → m ≡ Ok p → CollapsesBy r s p
