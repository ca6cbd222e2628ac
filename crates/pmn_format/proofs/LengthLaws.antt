-- The lengths of a file's parts, and that all of it is bytes. Assumes nothing.
use Rattle.std.specs.Prelude.{◌≡◌, refl, List, [], ◌∷◌, ◌++◌, ℕ, zero, suc, ◌+◌, ◌*◌, ◌≤◌, ◌<◌, length, get_or, take, drop}
use Rattle.std.proofs.Common.{sym, ap, ◌∙◌, append_assoc, arith, length-append}
use Rattle.basics.specs.Word.{word_bytes, int_bytes}
use Rattle.basics.specs.Lists.{Each}
use Rattle.network.specs.Threshold.{Feed, Gate, Net}
use Rattle.network.specs.declared.Board.{Board}
use Rattle.network.specs.Limits.{signals_of}
use Rattle.network.specs.Sound.{Rise, GateOk, GatesOk, HasSignal, Sound}
use Rattle.pmn_format.specs.Format.{feed_bytes, feeds_bytes, gate_bytes, gates_bytes, board_bytes, mark_bytes, counted_header}
use Rattle.pmn_format.specs.Format.{header_bytes, file_bytes, Bytes}
use Rattle.pmn_format.specs.Lengths.{header_length, longest_file}
use Rattle.pmn_format.proofs.BoardLaws.{mark_bytes_length, header_long, board_bytes_lem}

-- ---- lengths
pub feeds_bytes_length : (fs : List Feed) → length (feeds_bytes fs) ≡ 5 * length fs
feeds_bytes_length [] = refl
feeds_bytes_length (f ∷ fs) = let e = feeds_bytes_length fs in omega arith

pub feeds_bytes_append : (xs ys : List Feed) → feeds_bytes (xs ++ ys) ≡ feeds_bytes xs ++ feeds_bytes ys
feeds_bytes_append [] ys = refl
feeds_bytes_append (f ∷ xs) ys = ap (λ (l : List ℕ). feed_bytes f ++ l) (feeds_bytes_append xs ys)

pub gate_bytes_length : (g : Gate) → length (gate_bytes g) ≡ 5 + 5 * length g.feeds
gate_bytes_length g = length-append (length g.feeds ∷ int_bytes g.threshold) (feeds_bytes g.feeds) ∙ ap (λ (n : ℕ). 5 + n) (feeds_bytes_length g.feeds)

pub gates_bytes_append : (xs ys : List Gate) → gates_bytes (xs ++ ys) ≡ gates_bytes xs ++ gates_bytes ys
gates_bytes_append [] ys = refl
gates_bytes_append (g ∷ xs) ys =
    ap (λ (l : List ℕ). gate_bytes g ++ l) (gates_bytes_append xs ys)
    ∙ sym (append_assoc (gate_bytes g) (gates_bytes xs) (gates_bytes ys))

-- a header's length goes by its board
pub counted_header_length : (b : Board) (inputs gates outputs : ℕ) → length (counted_header b inputs gates outputs) ≡ header_length b
counted_header_length b inputs gates outputs = length-append (mark_bytes b) (inputs ∷ gates ∷ outputs ∷ []) ∙ mark_bytes_length b

pub header_bytes_length : (N : Net) → length (header_bytes N) ≡ header_length N.board
header_bytes_length N = counted_header_length N.board N.inputs (length N.gates) (length N.outputs)

pub file_bytes_length : (N : Net) → length (file_bytes N) ≡ header_length N.board + length (gates_bytes N.gates) + length N.outputs
file_bytes_length N =
    let e = length-append (header_bytes N) (gates_bytes N.gates ++ N.outputs) in
    let f = length-append (gates_bytes N.gates) N.outputs in
    let g = header_bytes_length N in
    omega arith

-- a file has 8 bytes at least
pub file_long : (N : Net) → 8 ≤ length (file_bytes N)
file_long N = omega (arith, file_bytes_length N, (header_long N.board).0)

gates_long : (n : ℕ) (gs : List Gate) → GatesOk n gs → length (gates_bytes gs) ≤ 85 * length gs
gates_long n [] h = omega arith
gates_long n (g ∷ gs) h = omega (arith, length-append (gate_bytes g) (gates_bytes gs), gate_bytes_length g, h.0.few, gates_long (suc n) gs h.1)

-- no file is longer than the longest
pub longest : (N : Net) → Sound N → length (file_bytes N) ≤ longest_file
longest N s = omega (arith, file_bytes_length N, (header_long N.board).1, gates_long N.inputs N.gates s.all_gates, s.few_gates, s.few_outputs)

-- ---- bytes
bytes_append : (xs ys : List ℕ) → Bytes xs → Bytes ys → Bytes (xs ++ ys)
bytes_append [] ys h k = k
bytes_append (b ∷ xs) ys h k = (h.0, bytes_append xs ys h.1 k)

pub bytes_take : (n : ℕ) (l : List ℕ) → Bytes l → Bytes (take n l)
bytes_take zero l h = tt
bytes_take (suc n) [] h = tt
bytes_take (suc n) (b ∷ l) h = (h.0, bytes_take n l h.1)

pub bytes_drop : (n : ℕ) (l : List ℕ) → Bytes l → Bytes (drop n l)
bytes_drop zero l h = h
bytes_drop (suc n) [] h = tt
bytes_drop (suc n) (b ∷ l) h = bytes_drop n l h.1

-- a list each of whose members is below 256
pub bytes_of : (l : List ℕ) → ((i : ℕ) → get_or l i 0 < 256) → Bytes l
bytes_of [] h = tt
bytes_of (b ∷ l) h = (h 0, bytes_of l (λ i. h (suc i)))

word_bytes_lem : (n : ℕ) → Bytes (word_bytes n)
word_bytes_lem n = (omega arith, (omega arith, (omega arith, (omega arith, tt))))

feeds_bytes_lem : (low own : ℕ) (fs : List Feed) → own ≤ 256 → Rise low own (signals_of fs) → Bytes (feeds_bytes fs)
unfolding signals_of
feeds_bytes_lem low own [] k h = tt
feeds_bytes_lem low own (f ∷ fs) k h = (
  omega arith,
  bytes_append (int_bytes f.weight) (feeds_bytes fs) (word_bytes_lem _) (feeds_bytes_lem (suc f.signal) own fs k h.2),
)

gate_bytes_lem : (own : ℕ) (g : Gate) → own ≤ 256 → GateOk own g → Bytes (gate_bytes g)
gate_bytes_lem own g k o = (omega arith, bytes_append (int_bytes g.threshold) (feeds_bytes g.feeds) (word_bytes_lem _) (feeds_bytes_lem 0 own g.feeds k o.rise))

gates_bytes_lem : (own : ℕ) (gs : List Gate) → own + length gs ≤ 256 → GatesOk own gs → Bytes (gates_bytes gs)
gates_bytes_lem own [] k h = tt
gates_bytes_lem own (g ∷ gs) k h =
    bytes_append (gate_bytes g) (gates_bytes gs) (gate_bytes_lem own g (omega arith) h.0) (gates_bytes_lem (suc own) gs (omega arith) h.1)

outputs_bytes : (inputs gates : ℕ) (ss : List ℕ) → inputs + gates ≤ 256 → Each (HasSignal inputs gates) ss → Bytes ss
outputs_bytes inputs gates [] k h = tt
outputs_bytes inputs gates (s ∷ ss) k h = (omega (arith, h.0.1), outputs_bytes inputs gates ss k h.1)

header_bytes_lem : (N : Net) → Sound N → Bytes (header_bytes N)
header_bytes_lem N s =
    let i = s.few_inputs in
    let g = s.few_gates in
    let o = s.few_outputs in
    let counts = N.inputs ∷ length N.gates ∷ length N.outputs ∷ [] in
    bytes_append (80 ∷ 77 ∷ 78 ∷ []) (board_bytes N.board ++ counts) (omega arith, (omega arith, (omega arith, tt)))
    (bytes_append (board_bytes N.board) counts (board_bytes_lem N.board s.board_ok_lem) (omega arith, (omega arith, (omega arith, tt))))

-- the file of a sound network is a list of bytes
pub file_bytes_lem : (N : Net) → Sound N → Bytes (file_bytes N)
file_bytes_lem N s =
    let i = s.few_inputs in
    let g = s.few_gates in
    bytes_append (header_bytes N) (gates_bytes N.gates ++ N.outputs) (header_bytes_lem N s)
    (bytes_append (gates_bytes N.gates) N.outputs (gates_bytes_lem N.inputs N.gates (omega arith) s.all_gates)
    (outputs_bytes N.inputs (length N.gates) N.outputs (omega arith) s.all_outputs))
