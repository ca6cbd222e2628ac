-- Laws of gates collapsed into their readers: what the pair of each gate says of all of them. Assumes nothing.
use Rattle.std.specs.Prelude.{◌≡◌, List, ◌∷◌, map, ◌≢◌, Result, Ok}
use Rattle.std.proofs.Math.Path.{refl, sym, ap, ap₂, subst}
use Rattle.std.proofs.Common.{◌∙◌, eq-eqb, ne_eqb, leb→le}
use Rattle.std.proofs.Math.Bool.{true, false, cond}
use Prim.Native.Nat.{ℕ, zero, suc, ◌+◌, ◌-◌, ◌≤◌, ◌<◌}
use Rattle.std.proofs.Math.Decide.{dec_lt}
use native.Mathlib.Omega.{arith}
use Rattle.std.proofs.Math.Dec.{T, not_T}
use Rattle.basics.specs.Lists.{range, tab}
use Rattle.basics.specs.TestLaws.{is_true, T_isnt, not_not, cond_case}
use Rattle.basics.specs.Refusals.{Answer, accepted, refused, bind}
use Rattle.basics.specs.RefusalLaws.{accepted≢refused, accepted_inj}
use Rattle.network.specs.Threshold.{Gate}
use Rattle.network.specs.Sound.{GateOk}
use Rattle.network.specs.Limits.{keeps}
use Rattle.network.specs.declared.Board.{Board}
use Rattle.network.specs.Record.{gate_of, net_of, nth_gate}
use Rattle.network.specs.Changes.{gate_at, with_gates, without}
use Rattle.network.specs.Places.{SoundGate}
use Rattle.network.specs.RecordLaws.{gate_within, gate_number}
use Rattle.network.specs.declared.Network.{Network}
use Rattle.fold_theory.specs.Merge.{Edge, edge_of, edge, silent, reads, merged, narrow, merge_keeps}
use Rattle.fold_theory.specs.Pair.{Pair, qualifies, pair_of}
use Rattle.fold_theory.specs.Collapse.{merged_reader, merged_readers, collapsed}
use Rattle.fold_theory.proofs.RefusalLaws.{Numbered}
use Rattle.fold_theory.proofs.NumberLaws.{pair_of_numbered}
use Rattle.fold_theory.proofs.SoundLaws.{merged_ok, reader_above}
use Rattle.fold_theory.proofs.PairLaws.{qualified_of, dial_of, pair_of_found}
use Rattle.fold_pair.specs.Answers.{as_pair}
use Rattle.fold_pair.specs.declared.PairFound.{PairFound}
use Rattle.fold_reader_pairs.specs.Collapsing.{edge_to, no_pair, reader_pair, with_pair, all_merged, pair_at, AllPairs, ReaderRefuses, PairedBelow}
use Rattle.fold_reader_pairs.specs.Collapsing.{ReaderPairs, gates_with_pairs, collapsed_by}
use Rattle.fold_reader_pairs.specs.declared.Pairs.{Pairs}
use Rattle.fold_reader_pairs.specs.declared.Refuser.{Refuser}
use Rattle.fold_reader_pairs.specs.declared.FirstRefuser.{FirstRefuser}
use Rattle.refusals.specs.Numbers.{number_of}

-- ---- the number of a refusal
pub reader_pair_numbered : (e : Edge) → Numbered (reader_pair e)
unfolding reader_pair
reader_pair_numbered e = cond_case Numbered (silent e.u e.gate_v) {x = accepted no_pair} {y = pair_of e} (λ t. tt) (λ t. pair_of_numbered e)

-- a pair's answer as a call gives it, by its code
pub as_pair_accepted : (a : Answer Pair) (x : PairFound) → x ≡ as_pair a → Numbered a → x.code ≡ 0 → a ≡ accepted (record { k = x.k; l = x.l })
unfolding as_pair
as_pair_accepted (accepted p) x e n z = ap (λ (y : PairFound). accepted (record { k = y.k; l = y.l })) (sym e)
as_pair_accepted (refused c) x e n z = absurd (n (ap (λ (y : PairFound). y.code) (sym e) ∙ z))

pub as_pair_refused : (a : Answer Pair) (x : PairFound) → x ≡ as_pair a → x.code ≢ 0 → a ≡ refused x.code
unfolding as_pair
as_pair_refused (accepted p) x e h = absurd (h (ap (λ (y : PairFound). y.code) e))
as_pair_refused (refused c) x e h = ap (λ (y : PairFound). refused y.code) (sym e)

-- ---- the pair in an answer
unfoldable pub pair_in : Answer Pair → Pair
pair_in (accepted p) = p
pair_in (refused c) = no_pair

-- an answer that refuses nothing
not_refused : (a : Answer Pair) → ((c : ℕ) → a ≢ refused c) → a ≡ accepted (pair_in a)
unfolding pair_in
not_refused (accepted p) h = refl
not_refused (refused c) h = absurd (h c refl)

-- ---- the pair of one gate

-- a gate does not read its own signal
pub own_silent : (u : ℕ) (g : Gate) → GateOk u g → silent u g ≡ true
unfolding reads
own_silent u g h = is_true (silent u g) (not_not (silent u g) (not_T (reads u g) λ t. let l = reader_above u u g h t in omega arith))

module _ (e : Edge) where
  -- a gate that does not read u, and a reader
  pub pair_silent : silent e.u e.gate_v ≡ true → reader_pair e ≡ accepted no_pair
  unfolding reader_pair
  pair_silent t = rw t

  pub pair_reader : silent e.u e.gate_v ≡ false → reader_pair e ≡ pair_of e
  unfolding reader_pair
  pair_reader t = rw t

  -- where its pair is k and l, u is merged into the gate
  pub record Merges (p : Pair) : Type 0 where
    pub reader : T (reads e.u e.gate_v)
    pub few : T (narrow e)
    pub qualified : T (qualifies e p)
    pub dials : (1 ≤ p.k) × (p.k ≤ 32) × (1 ≤ p.l) × (p.l ≤ 32)

  module _ (p : Pair) (h : reader_pair e ≡ accepted p) where
    -- the two cases of an accepted pair
    pair_case : {X : Type 0} → (silent e.u e.gate_v ≡ true → p ≡ no_pair → X)
        → (silent e.u e.gate_v ≡ false → pair_of e ≡ accepted p → Merges p → X) → X
    unfolding reads
    pair_case {X} f g = elim (silent e.u e.gate_v) as (λ b. silent e.u e.gate_v ≡ b → X) [
      | true ↦ λ t. f t (accepted_inj (sym h ∙ pair_silent t))
      | false ↦ λ t. let q : pair_of e ≡ accepted p = sym (pair_reader t) ∙ h in
          let found = pair_of_found e p q in
          let d = qualified_of e p found.qualified in
          let k = dial_of p.k d.k_dial in
          let l = dial_of p.l d.l_dial in
          g t q (record { reader = T_isnt _ t; few = found.searched.is_narrow; qualified = found.qualified; dials = (k.0, k.1, l.0, l.1) })
    ] refl

    pub pair_small : (p.k ≤ 32) × (p.l ≤ 32)
    pair_small = pair_case (λ t q. rw q (omega arith)) (λ t q m. (m.dials.1, m.dials.3))

    -- only a gate that does not read u has the k 0
    pub pair_zero : p.k ≡ 0 → silent e.u e.gate_v ≡ true
    pair_zero z = pair_case (λ t q. t) (λ t q m. absurd (omega (arith, m.dials)))

    pub pair_merges : p.k ≢ 0 → Merges p
    pair_merges n = pair_case (λ t q. absurd (n (ap (λ (x : Pair). x.k) q))) (λ t q m. m)

    -- a gate whose k is 0 stays as it is, and so does one that does not read u
    pub with_pair_zero : p.k ≡ 0 → with_pair e p ≡ e.gate_v
    unfolding with_pair
    with_pair_zero z = rw (eq-eqb p.k 0 z)

    pub with_pair_merged : p.k ≢ 0 → with_pair e p ≡ merged e p.k p.l
    unfolding with_pair
    with_pair_merged n = rw (ne_eqb p.k 0 n)

    pub with_pair_silent : silent e.u e.gate_v ≡ true → with_pair e p ≡ e.gate_v
    with_pair_silent t = with_pair_zero (ap (λ (x : Pair). x.k) (accepted_inj (sym h ∙ pair_silent t)))

    -- the gate with its pair is what becomes of it
    merged_reader_pair : merged_reader e ≡ accepted (with_pair e p)
    unfolding merged_reader bind
    merged_reader_pair = pair_case
        (λ t q. rw t (ap accepted (sym (with_pair_silent t))))
        (λ t q m. rw (t, q) (ap accepted (sym (with_pair_merged (λ z. omega (arith, m.dials))))))

    -- it is within the limits
    pub gate_collapsed_ok : GateOk e.v e.gate_v → GateOk e.v (with_pair e p)
    unfolding narrow
    gate_collapsed_ok ok = pair_case
        (λ t q. subst (GateOk e.v) (sym (with_pair_silent t)) ok)
        (λ t q m. subst (GateOk e.v) (sym (with_pair_merged (λ z. omega (arith, m.dials))))
        (merged_ok e p.k p.l (leb→le _ 16 m.few) (qualified_of e p m.qualified).scaled))

    -- and it keeps the margins
    pub gate_collapsed_keeps : T (keeps e.board e.gate_v) → T (keeps e.board (with_pair e p))
    unfolding merge_keeps
    gate_collapsed_keeps kept = pair_case
        (λ t q. subst (λ (g : Gate). T (keeps e.board g)) (sym (with_pair_silent t)) kept)
        (λ t q m. subst (λ (g : Gate). T (keeps e.board g)) (sym (with_pair_merged (λ z. omega (arith, m.dials)))) (qualified_of e p m.qualified).kept)

  -- a gate whose pair is refused reads u, and the two have no pair
  pub pair_refused : (c : ℕ) → reader_pair e ≡ refused c → T (reads e.u e.gate_v) × (pair_of e ≡ refused c)
  unfolding reader_pair reads
  pair_refused c h = cond_case {A = Answer Pair} (λ x. x ≡ refused c → T (reads e.u e.gate_v) × (pair_of e ≡ refused c)) (silent e.u e.gate_v)
      (λ t q. accepted≢refused q) (λ t q. (t, q)) h

  -- a reader whose pair is refused
  fuse_refused : (c : ℕ) → reader_pair e ≡ refused c → merged_reader e ≡ refused c
  unfolding reader_pair merged_reader bind
  fuse_refused c h =
      elim (silent e.u e.gate_v) as
      (λ b. cond b (accepted no_pair) (pair_of e) ≡ refused c
      → cond b (accepted e.gate_v) (bind (pair_of e) (λ p. accepted (merged e p.k p.l))) ≡ refused c) [
        | true ↦ λ q. accepted≢refused q
        | false ↦ λ q. rw q
      ] h

-- ---- all gates: those with numbers from a on, n of them
module _ (board : Board) (u : ℕ) (gate_u : Gate) (inputs : ℕ) (gate : ℕ → Gate) where
  abbrev at : ℕ → Edge
  at g = edge_of board u (inputs + g) gate_u (gate g)

  abbrev from : ℕ → ℕ → Answer (List Gate)
  from a n = merged_readers board u gate_u (inputs + a) (map gate (range a n))

  -- the first gate, and those after it
  merged_readers_step : (a n : ℕ) → from a (suc n) ≡ bind (merged_reader (at a)) (λ h. bind (from (suc a) n) (λ hs. accepted (h ∷ hs)))
  unfolding merged_readers range
  merged_readers_step a n = rw (let e : inputs + suc a ≡ suc (inputs + a) = omega arith in e)

  -- where every gate is accepted, all are
  merged_readers_accepted : (h : ℕ → Gate) (a n : ℕ) → ((g : ℕ) → a ≤ g → g < a + n → merged_reader (at g) ≡ accepted (h g))
      → from a n ≡ accepted (map h (range a n))
  unfolding merged_readers range bind
  merged_readers_accepted h a zero q = refl
  merged_readers_accepted h a (suc n) q = merged_readers_step a n
      ∙ rw (q a (omega arith) (omega arith), merged_readers_accepted h (suc a) n (λ g k l. q g (omega arith) (omega arith)))

  -- the first refused gate is the answer
  merged_readers_refused : (h : ℕ → Gate) (a n g c : ℕ) → a ≤ g → g < a + n → ((i : ℕ) → i < g → merged_reader (at i) ≡ accepted (h i))
      → merged_reader (at g) ≡ refused c
      → from a n ≡ refused c
  unfolding bind
  merged_readers_refused h a zero g c k l q r = absurd (omega arith)
  merged_readers_refused h a (suc n) g c k l q r =
      merged_readers_step a n ∙ (elim (dec_lt a g) as (λ d. bind (merged_reader (at a)) (λ h. bind (from (suc a) n) (λ hs. accepted (h ∷ hs))) ≡ refused c) [
        | yes j ↦ rw (q a j, merged_readers_refused h (suc a) n g c j (omega arith) q r)
        | no j ↦ let e : a ≡ g = omega arith in rw (e, r)
      ])

-- ---- all gates by their pairs
module _ (board : Board) (gate : ℕ → Gate) (inputs gates u : ℕ) where
  -- the answer from the first gate on
  abbrev all_from : Answer (List Gate)
  all_from = from board u (gate (u - inputs)) inputs gate 0 gates

  from_first : all_from ≡ all_merged board gate inputs gates u
  from_first = ap (λ (n : ℕ). merged_readers board u (gate (u - inputs)) n (tab gates gate)) (let e : inputs + 0 ≡ inputs = omega arith in e)

  -- where every gate has its pair, all are accepted
  all_merged_pairs : (p : Pairs) → AllPairs board gate inputs gates u p
      → all_merged board gate inputs gates u ≡ accepted (gates_with_pairs board gate inputs gates u p)
  all_merged_pairs p h = sym from_first
      ∙ merged_readers_accepted board u (gate (u - inputs)) inputs gate (λ g. with_pair (edge_to board gate inputs u g) (pair_at p g)) 0 gates
      λ g k l. merged_reader_pair (edge_to board gate inputs u g) (pair_at p g) (h.each g (omega arith))

  -- the first gate whose pair is refused is the answer
  all_merged_first : (q : ℕ → Pair) (g c : ℕ) → g < gates → ((i : ℕ) → i < g → reader_pair (edge_to board gate inputs u i) ≡ accepted (q i))
      → reader_pair (edge_to board gate inputs u g) ≡ refused c
      → all_merged board gate inputs gates u ≡ refused c
  all_merged_first q g c l h r =
      sym from_first
      ∙ merged_readers_refused board u (gate (u - inputs)) inputs gate (λ i. with_pair (edge_to board gate inputs u i) (q i)) 0 gates g c
      (omega arith) (omega arith)
      (λ i k. merged_reader_pair (edge_to board gate inputs u i) (q i) (h i k)) (fuse_refused (edge_to board gate inputs u g) c r)

  -- the same of a refuser before which no gate is refused its pair
  pub pairs_first : (x : Refuser) → ReaderRefuses board gate inputs gates u x → PairedBelow board gate inputs u x.reader
      → all_merged board gate inputs gates u ≡ refused (number_of x.refusal)
  pairs_first x w b =
      let pair = λ (i : ℕ). reader_pair (edge_to board gate inputs u i) in
      all_merged_first (λ i. pair_in (pair i)) x.reader (number_of x.refusal) w.within (λ i k. not_refused (pair i) (λ c. b.each i c k)) w.refusal_is

-- ---- by what the pairs of all readers say
module _ (r : Network) (u : ℕ) (m : Result Pairs FirstRefuser) (h : ReaderPairs r u m) where
  pub pairs_all : (p : Pairs) → m ≡ Ok p → AllPairs r.board (gate_of r) r.inputs r.gates u p
  pairs_all = h.found

-- ---- a record's gate collapsed into its readers
module _ (r : Network) (u : ℕ) (s : SoundGate r u) where
  -- gates u and g, g by its number, as an edge of the network
  pub edge_to_net : (g : ℕ) → g < r.gates → edge_to r.board (gate_of r) r.inputs u g ≡ edge (net_of r) u (r.inputs + g)
  unfolding edge gate_at net_of
  edge_to_net g h = ap₂ (λ (x y : Gate). edge_of r.board u (r.inputs + g) x y)
      (sym (gate_within r (u - r.inputs) (gate_number r u s).1))
      (sym (ap (nth_gate (net_of r).gates) (let e : r.inputs + g - r.inputs ≡ g = omega arith in e) ∙ gate_within r g h))

  -- the collapse, by the gates' numbers
  collapsed_readers : collapsed (net_of r) u
      ≡ bind (all_merged r.board (gate_of r) r.inputs r.gates u) (λ gs. accepted (without (with_gates (net_of r) gs) u))
  unfolding gate_at net_of
  collapsed_readers =
      ap (λ (g : Gate). bind (merged_readers r.board u g r.inputs (tab r.gates (gate_of r))) (λ gs. accepted (without (with_gates (net_of r) gs) u)))
      (gate_within r (u - r.inputs) (gate_number r u s).1)

  pub collapsed_pairs : (p : Pairs) → AllPairs r.board (gate_of r) r.inputs r.gates u p → collapsed (net_of r) u ≡ accepted (collapsed_by r u p)
  unfolding bind collapsed_by
  collapsed_pairs p h = collapsed_readers ∙ rw (all_merged_pairs r.board (gate_of r) r.inputs r.gates u p h)

  pub collapsed_first : (c : ℕ) → all_merged r.board (gate_of r) r.inputs r.gates u ≡ refused c → collapsed (net_of r) u ≡ refused c
  unfolding bind
  collapsed_first c h = collapsed_readers ∙ rw h
