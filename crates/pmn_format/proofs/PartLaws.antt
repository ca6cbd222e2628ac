-- Where each gate's bytes stand in the file of a network, by the file's own count bytes, and the part of the file that a gate has.
-- Assumes nothing.
use Rattle.std.specs.Prelude.{◌≡◌, refl, true, false, cond, List, [], ◌∷◌, ◌++◌, eqb, length, take, drop}
use Rattle.std.proofs.Math.Path.{sym, ap}
use Rattle.std.proofs.Common.{◌∙◌, append_assoc, add-one, length-append, length-drop, drop-drop, get_or-drop, take-suc}
use Prim.Native.Nat.{ℕ, zero, suc, ◌+◌, ◌*◌, ◌-◌, ◌<◌, ◌≤◌}
use native.Mathlib.Omega.{arith}
use Rattle.std.proofs.Math.ListN.{get_or}
use Rattle.std.proofs.Math.Seq.{drop-append_seam, take-append_seam}
use Rattle.basics.specs.Refusals.{accepted, refused}
use Rattle.basics.specs.RefusalLaws.{checks_first, checks_next, checks_none}
use Rattle.basics.specs.TestLaws.{is_true, is_false, T_is, test_case}
use Rattle.network.specs.Threshold.{Gate, Net}
use Rattle.network.specs.Record.{no_gate, nth_gate}
use Rattle.network.specs.Limits.{is_gate}
use Rattle.network.specs.LimitLaws.{has_of}
use Rattle.network.specs.Changes.{gate_at}
use Rattle.pmn_format.specs.Format.{Read, done, gate_bytes, gates_bytes, header_bytes, file_bytes, parse_file, Bytes}
use Rattle.pmn_format.specs.Lengths.{header_length}
use Rattle.pmn_format.specs.Part.{gate_start, part_in, part_of_read, part_answer}
use Rattle.pmn_format.proofs.LengthLaws.{header_bytes_length, gate_bytes_length, gates_bytes_append}
use Rattle.pmn_format.proofs.ReadWriteLaws.{file_of_lem}

-- ---- where a gate starts in the file of a network

at_gate : (gs : List Gate) (os : List ℕ) (i : ℕ) → i < length gs
    → drop (length (gates_bytes (take i gs))) (gates_bytes gs ++ os) ≡ gate_bytes (get_or gs i no_gate) ++ (gates_bytes (drop (suc i) gs) ++ os)
at_gate [] os i h = absurd (omega arith)
at_gate (x ∷ gs) os zero h = append_assoc (gate_bytes x) (gates_bytes gs) os
at_gate (x ∷ gs) os (suc i) h =
    let b = gate_bytes x in
    let t = gates_bytes (take i gs) in
    ap (λ (k : ℕ). drop k ((b ++ gates_bytes gs) ++ os)) (length-append b t)
    ∙ sym (drop-drop (length t) (length b) ((b ++ gates_bytes gs) ++ os))
    ∙ ap (λ (l : List ℕ). drop (length t) (drop (length b) l)) (append_assoc b (gates_bytes gs) os)
    ∙ ap (drop (length t)) (drop-append_seam b (gates_bytes gs ++ os))
    ∙ at_gate gs os i (omega arith)

-- one gate further
next_start : (N : Net) (i : ℕ) → i < length N.gates → gate_start N (suc i) ≡ gate_start N i + (5 + 5 * length (nth_gate N.gates i).feeds)
next_start N i h =
    let x = nth_gate N.gates i in
    let t = gates_bytes (take i N.gates) in
    let e : length (gates_bytes (take (suc i) N.gates)) ≡ length t + length (gate_bytes x ++ []) =
    ap (λ (l : List Gate). length (gates_bytes l)) (take-suc N.gates i no_gate h)
    ∙ ap length (gates_bytes_append (take i N.gates) (x ∷ []))
    ∙ length-append t (gate_bytes x ++ []) in
    let f = length-append (gate_bytes x) [] in
    let g = gate_bytes_length x in
    omega arith

-- ---- the file s of N, at its gate i
module _ (s : List ℕ) (N : Net) (file : s ≡ file_bytes N) (i : ℕ) (lt : i < length N.gates) where
  -- the bytes from its start on
  pub from_start : drop (gate_start N i) s ≡ gate_bytes (nth_gate N.gates i) ++ (gates_bytes (drop (suc i) N.gates) ++ N.outputs)
  from_start =
      ap (drop (gate_start N i)) file
      ∙ sym (drop-drop (length (gates_bytes (take i N.gates))) (length (header_bytes N)) (file_bytes N))
      ∙ ap (drop (length (gates_bytes (take i N.gates)))) (drop-append_seam (header_bytes N) (gates_bytes N.gates ++ N.outputs))
      ∙ at_gate N.gates N.outputs i lt

  -- its count stands at its start
  count_at : get_or s (gate_start N i) 0 ≡ length (nth_gate N.gates i).feeds
  count_at =
      ap (λ (k : ℕ). get_or s k 0) {x = gate_start N i} {y = gate_start N i + 0} (omega arith)
      ∙ sym (get_or-drop (gate_start N i) s 0 0)
      ∙ ap (λ (l : List ℕ). get_or l 0 0) from_start

  -- it lies in the file
  pub inside : gate_start N i + (5 + 5 * length (nth_gate N.gates i).feeds) ≤ length s
  inside =
      let b = gate_bytes (nth_gate N.gates i) in
      let r = gates_bytes (drop (suc i) N.gates) ++ N.outputs in
      let e = length-drop (gate_start N i) s in
      let f = ap length from_start ∙ length-append b r in
      let g = gate_bytes_length (nth_gate N.gates i) in
      omega arith

  -- the part of the file there is the gate's bytes
  part_there : take (length (gate_bytes (nth_gate N.gates i))) (drop (gate_start N i) s) ≡ gate_bytes (nth_gate N.gates i)
  part_there = ap (take (length (gate_bytes (nth_gate N.gates i)))) from_start
      ∙ take-append_seam (gate_bytes (nth_gate N.gates i)) (gates_bytes (drop (suc i) N.gates) ++ N.outputs)

-- ---- the same by the count bytes alone

-- where the gates begin, by the version's byte
abbrev pub first_start : List ℕ → ℕ
first_start s = cond (eqb (get_or s 3 0) 2) 10 8

-- where gate g starts in a file: each gate's bytes are 5 and 5 for each feed that its count byte says
unfoldable pub start_by : List ℕ → ℕ → ℕ
start_by s zero = first_start s
start_by s (suc g) = start_by s g + (5 + 5 * get_or s (start_by s g) 0)

pub start_by_none : (s : List ℕ) → start_by s 0 ≡ first_start s
unfolding start_by
start_by_none s = refl

pub start_by_more : (s : List ℕ) (g : ℕ) → start_by s (g + 1) ≡ start_by s g + (5 + 5 * get_or s (start_by s g) 0)
unfolding start_by
start_by_more s g = rw add-one

module _ (s : List ℕ) (N : Net) (file : s ≡ file_bytes N) where
  -- the header ends there
  pub first_start_is : first_start s ≡ header_length N.board
  first_start_is =
      let second = eqb N.board.version 2 in
      ap first_start file ∙ test_case second (λ t. rw (is_true second t)) (λ t. rw (is_false second t))

  -- the inputs stand 3 bytes before
  pub inputs_at : get_or s (first_start s - 3) 0 ≡ N.inputs
  inputs_at =
      let second = eqb N.board.version 2 in
      ap (λ (l : List ℕ). get_or l (first_start l - 3) 0) file ∙ test_case second (λ t. rw (is_true second t)) (λ t. rw (is_false second t))

  start_by_is : (i : ℕ) → i ≤ length N.gates → start_by s i ≡ gate_start N i
  unfolding start_by
  start_by_is zero h = let e = first_start_is in let f = header_bytes_length N in omega arith
  start_by_is (suc i) h =
      let e = start_by_is i (omega arith) in
      ap (λ (k : ℕ). k + (5 + 5 * get_or s k 0)) e
      ∙ ap (λ (n : ℕ). gate_start N i + (5 + 5 * n)) (count_at s N file i (omega arith))
      ∙ sym (next_start N i (omega arith))

-- s is the file of a network that has a gate g
pub record GateFile (s : List ℕ) (g : ℕ) : Type 0 where
  pub net : Net
  pub file : s ≡ file_bytes net
  pub below : g < length net.gates

module _ (s : List ℕ) (g : ℕ) (a : GateFile s g) (i : ℕ) (le : i ≤ g) where
  -- gate i lies in the file
  pub start_within : start_by s i + (5 + 5 * get_or s (start_by s i) 0) ≤ length s
  start_within =
      let h : i < length a.net.gates = omega (arith, a.below) in
      let e = start_by_is s a.net a.file i (omega arith) in
      let c = ap (λ (k : ℕ). get_or s k 0) e ∙ count_at s a.net a.file i h in
      let w = inside s a.net a.file i h in
      omega arith

  -- its bytes by the count bytes alone
  pub part_by_lem : take (5 + 5 * get_or s (start_by s i) 0) (drop (start_by s i) s) ≡ gate_bytes (nth_gate a.net.gates i)
  part_by_lem =
      let h : i < length a.net.gates = omega (arith, a.below) in
      let e = start_by_is s a.net a.file i (omega arith) in
      let c = ap (λ (k : ℕ). get_or s k 0) e ∙ count_at s a.net a.file i h in
      ap (λ (k : ℕ). take (5 + 5 * k) (drop (start_by s i) s)) c
      ∙ ap (λ (k : ℕ). take k (drop (start_by s i) s)) (sym (gate_bytes_length (nth_gate a.net.gates i)))
      ∙ ap (λ (k : ℕ). take (length (gate_bytes (nth_gate a.net.gates i))) (drop k s)) e
      ∙ part_there s a.net a.file i h

-- ---- the part that a signal has
pub part_refused : (s : List ℕ) (signal k : ℕ) → parse_file s ≡ Read.refused k → part_answer s signal ≡ refused k
unfolding part_answer
part_refused s signal k e = ap (part_of_read s signal) e

pub part_stray : (s : List ℕ) (signal : ℕ) (N : Net) (m : List ℕ) → parse_file s ≡ done N m → is_gate N signal ≡ false → part_answer s signal ≡ refused 11
unfolding part_answer
part_stray s signal N m e h = ap (part_of_read s signal) e ∙ checks_first (is_gate N signal) 11 [] (accepted (part_in s N signal)) h

-- the gate's bytes
pub part_found : (s : List ℕ) (signal : ℕ) (N : Net) (m : List ℕ) → Bytes s → parse_file s ≡ done N m → is_gate N signal ≡ true
    → part_answer s signal ≡ accepted (gate_bytes (gate_at N signal))
unfolding part_answer gate_at
part_found s signal N m bs e h =
    let g = has_of N signal (T_is (is_gate N signal) h) in
    ap (part_of_read s signal) e
    ∙ checks_next (is_gate N signal) 11 [] (accepted (part_in s N signal)) h
    ∙ checks_none (accepted (part_in s N signal))
    ∙ ap accepted (part_there s N (file_of_lem s N m bs e).list (signal - N.inputs) (omega arith))
