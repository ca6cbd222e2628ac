-- Laws of what the writer puts: one gate more, the lengths, and the parts of a record's file. Assumes nothing.
use Rattle.std.specs.Prelude.{◌≡◌, ℕ, zero, suc, ◌+◌, ◌*◌, ◌-◌, ◌≤◌, ◌<◌, ℤ, pos, length}
use Rattle.std.proofs.Math.Path.{refl, sym, ap}
use Rattle.std.proofs.Common.{◌∙◌, add-one, length-append}
use mathlib.Core.List.{List, [], ◌∷◌, ◌++◌, append-nil}
use native.Mathlib.Omega.{arith}
use Rattle.std.proofs.Math.ListN.{get_or}
use Rattle.basics.specs.Lists.{range, tab}
use Rattle.basics.specs.ListLaws.{length_tab, get_or_tab, tab_same}
use Rattle.network.specs.declared.Network.{Network}
use Rattle.network.specs.Threshold.{Feed}
use Rattle.network.specs.Record.{feed_at, feeds_from, gate_from, gate_of, net_of, gate_in, row_at}
use Rattle.basics.specs.TableLaws.{range_tab}
use Rattle.network.specs.PlaceLaws.{length_gate_from}
use Rattle.network.specs.RecordLaws.{count_outputs}
use Rattle.pmn_format.specs.Format.{gate_bytes, gates_bytes, counted_header, file_bytes}
use Rattle.pmn_format.specs.Lengths.{header_length}
use Rattle.pmn_format.proofs.LengthLaws.{gate_bytes_length, gates_bytes_append, file_bytes_length}
use Rattle.pmn_writing.specs.Parts.{first_outputs}
use Rattle.pmn_writing.specs.PartLaws.{tab_more}
use Rattle.pmn_writer.specs.Writing.{first_gates, gates_length}

-- ---- lengths of gates
pub gates_length_none : (fs : List ℕ) → gates_length fs 0 ≡ 0
unfolding gates_length
gates_length_none fs = refl

pub gates_length_more : (fs : List ℕ) (g : ℕ) → gates_length fs (g + 1) ≡ gates_length fs g + (5 + 5 * get_or fs g 0)
unfolding gates_length
gates_length_more fs g = rw add-one

gates_length_rise : (fs : List ℕ) (i k : ℕ) → gates_length fs i ≤ gates_length fs (i + k)
gates_length_rise fs i zero = let e = ap (gates_length fs) {x = i + 0} {y = i} (omega arith) in omega arith
gates_length_rise fs i (suc k) =
    let h = gates_length_rise fs i k in
    let e = ap (gates_length fs) {x = i + suc k} {y = i + k + 1} (omega arith) ∙ gates_length_more fs (i + k) in
    omega arith

-- gate g has room before the end of the first n
pub gates_length_room : (fs : List ℕ) (g n : ℕ) → g < n → gates_length fs g + (5 + 5 * get_or fs g 0) ≤ gates_length fs n
gates_length_room fs g n h =
    let e = ap (gates_length fs) {x = g + 1 + (n - (g + 1))} {y = n} (omega arith) in
    let k = gates_length_rise fs (g + 1) (n - (g + 1)) in
    let m = gates_length_more fs g in
    omega arith

-- ---- gates
module _ (fs : List ℕ) (ts : List ℤ) (ss : List ℕ) (ws : List ℤ) where
  pub first_gates_none : first_gates fs ts ss ws 0 ≡ []
  unfolding first_gates range
  first_gates_none = refl

  pub first_gates_more : (g : ℕ) → first_gates fs ts ss ws (g + 1) ≡ first_gates fs ts ss ws g ++ gate_bytes (gate_from fs ts ss ws g)
  unfolding first_gates
  first_gates_more g =
      let f = gate_from fs ts ss ws in
      ap gates_bytes (tab_more f g) ∙ gates_bytes_append (tab g f) (f g ∷ []) ∙ ap (λ (l : List ℕ). gates_bytes (tab g f) ++ l) (append-nil (gate_bytes (f g)))

  pub gate_from_length : (g : ℕ) → length (gate_bytes (gate_from fs ts ss ws g)) ≡ 5 + 5 * get_or fs g 0
  gate_from_length g = gate_bytes_length (gate_from fs ts ss ws g) ∙ ap (λ (k : ℕ). 5 + 5 * k) (length_gate_from fs ts ss ws g)

  pub first_gates_length : (n : ℕ) → length (first_gates fs ts ss ws n) ≡ gates_length fs n
  first_gates_length zero = ap length first_gates_none ∙ sym (gates_length_none fs)
  first_gates_length (suc n) =
      let e = ap (λ (k : ℕ). length (first_gates fs ts ss ws k)) (sym (add-one n)) ∙ ap length (first_gates_more n)
      ∙ length-append (first_gates fs ts ss ws n) (gate_bytes (gate_from fs ts ss ws n)) in
      let f = ap (gates_length fs) (sym (add-one n)) ∙ gates_length_more fs n in
      let g = gate_from_length n in
      let h = first_gates_length n in
      omega arith

  -- a gate taken out of the arrays is the arrays' gate
  pub gate_in_row : (g : ℕ) → get_or fs g 0 ≤ 16 → gate_in (row_at fs ts ss ws g) ≡ gate_from fs ts ss ws g
  unfolding gate_in row_at gate_from feeds_from feed_at
  gate_in_row g h =
      let row = row_at fs ts ss ws g in
      ap (λ (l : List Feed). record { feeds = l; threshold = get_or ts g (pos 0) })
      (tab_same (get_or fs g 0) (feed_at row.signals row.weights) (λ i. feed_at ss ws (16 * g + i)) (λ i k x. record {
        signal = get_or_tab 0 16 (λ i. get_or ss (16 * g + i) 0) i (omega arith) x;
        weight = get_or_tab (pos 0) 16 (λ i. get_or ws (16 * g + i) (pos 0)) i (omega arith) x;
      })
      ∙ sym (range_tab (feed_at ss ws) (16 * g) (get_or fs g 0)))

-- ---- the file of a record
module _ (r : Network) where
  abbrev pub record_gates : List ℕ
  record_gates = first_gates r.fanins r.thresholds r.signals r.weights r.gates

  -- its parts
  pub file_parts : file_bytes (net_of r) ≡ counted_header r.board r.inputs r.gates r.outputs ++ (record_gates ++ first_outputs r.drivers r.outputs)
  unfolding net_of first_gates first_outputs
  file_parts =
      let rest = record_gates ++ first_outputs r.drivers r.outputs in
      ap (λ (k : ℕ). counted_header r.board r.inputs k (length (net_of r).outputs) ++ rest) (length_tab r.gates (gate_of r))
      ∙ ap (λ (k : ℕ). counted_header r.board r.inputs r.gates k ++ rest) (length_tab r.outputs (λ j. get_or r.drivers j 0))

  -- its length
  pub file_length : length (file_bytes (net_of r)) ≡ header_length r.board + gates_length r.fanins r.gates + r.outputs
  unfolding net_of first_gates
  file_length =
      let e = file_bytes_length (net_of r) in
      let f = first_gates_length r.fanins r.thresholds r.signals r.weights r.gates in
      let g = count_outputs r in
      omega arith
