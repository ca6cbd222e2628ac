-- The PMN file, versions 1 and 2: the bytes of a network, and the network or the first refusal for a list of bytes. Document 01, "PMN file,
-- version 1", with the order of "Codes on the head's display": fields in file order, a missing byte before the field's value; document 02,
-- No. 8, "Board tolerance in the file". Nothing is proved here.
use Rattle.std.specs.Prelude.{ℕ, zero, suc, ◌<◌, List, [], ◌∷◌, ◌++◌, Bool, true, false, cond, ◌&&◌, length, ltb, leb, eqb, ℤ}
use Rattle.basics.specs.Library.{w32, to_z}
use Rattle.basics.specs.Word.{number32, int_bytes}
use Rattle.basics.specs.Lists.{between}
use Rattle.network.specs.Threshold.{Feed, Gate, Net}
use Rattle.network.specs.Limits.{in_scale, weight_ok, keeps, gate_signal}
use Rattle.network.specs.declared.Board.{Board}

-- ---- the bytes of a network

-- "signal (byte), weight (32 bits signed)"
abbrev pub feed_bytes : Feed → List ℕ
feed_bytes f = f.signal ∷ int_bytes f.weight

abbrev pub feeds_bytes : List Feed → List ℕ
feeds_bytes [] = []
feeds_bytes (f ∷ fs) = feed_bytes f ++ feeds_bytes fs

-- "feed count (byte), T (32 bits signed), then the feeds"
abbrev pub gate_bytes : Gate → List ℕ
gate_bytes g = (length g.feeds ∷ int_bytes g.threshold) ++ feeds_bytes g.feeds

abbrev pub gates_bytes : List Gate → List ℕ
gates_bytes [] = []
gates_bytes (g ∷ gs) = gate_bytes g ++ gates_bytes gs

-- "version, 16 bits"; "PMN version 2 has two bytes after the version, the on margin and the off margin"
abbrev pub board_bytes : Board → List ℕ
board_bytes b = cond (eqb b.version 2) (2 ∷ 0 ∷ b.on ∷ b.off ∷ []) (1 ∷ 0 ∷ [])

-- "`PMN`, 3 bytes; version, 16 bits", and the margins
abbrev pub mark_bytes : Board → List ℕ
mark_bytes b = 80 ∷ 77 ∷ 78 ∷ board_bytes b

-- after these "inputs I; gates G; outputs; one byte each"
abbrev pub counted_header : Board → ℕ → ℕ → ℕ → List ℕ
counted_header b inputs gates outputs = mark_bytes b ++ (inputs ∷ gates ∷ outputs ∷ [])

-- the header of a network
abbrev pub header_bytes : Net → List ℕ
header_bytes N = counted_header N.board N.inputs (length N.gates) (length N.outputs)

-- the header, each gate, "for each output: the signal of a gate (byte)"
abbrev pub file_bytes : Net → List ℕ
file_bytes N = header_bytes N ++ (gates_bytes N.gates ++ N.outputs)

-- ---- reading: a value with the bytes after it, or the number of a refusal

pub data Read (A : Type 0) : Type 0 where
  refused : ℕ → Read A
  done : A → List ℕ → Read A

-- the rest where a test holds, else the refusal k
abbrev pub check : {A : Type 0} → Bool → ℕ → Read A → Read A
check true k r = r
check false k r = refused k

-- what follows a value
abbrev pub and_then : {A B : Type 0} → Read A → (A → List ℕ → Read B) → Read B
and_then (refused k) f = refused k
and_then (done a l) f = f a l

-- the next byte, or the refusal r where there is none
abbrev pub byte_or : {A : Type 0} → ℕ → List ℕ → (ℕ → List ℕ → Read A) → Read A
byte_or r [] k = refused r
byte_or r (b ∷ l) k = k b l

-- a field of one byte, and a signed field of four; 4 where "a field's bytes are missing"
abbrev pub byte_then : {A : Type 0} → List ℕ → (ℕ → List ℕ → Read A) → Read A
byte_then l k = byte_or 4 l k

abbrev pub int_then : {A : Type 0} → List ℕ → (ℤ → List ℕ → Read A) → Read A
int_then l k =
    byte_or 4 l (λ a l₁. byte_or 4 l₁ (λ b l₂. byte_or 4 l₂ (λ c l₃. byte_or 4 l₃ (λ d l₄. k (to_z w32 (number32 a b c d)) l₄))))

-- a feed of the gate with signal own, whose signal is low at least: 5 "not below its gate, or not rising", 6 "a weight off limits,
-- or a file weight 0"
abbrev pub parse_feed : ℕ → ℕ → List ℕ → Read Feed
parse_feed own low l =
    byte_then l (λ s l₁.
    check (leb low s && ltb s own) 5
    (int_then l₁ (λ w l₂.
    check (weight_ok (record { signal = s; weight = w })) 6
    (done (record { signal = s; weight = w }) l₂))))

-- n feeds of the gate with signal own, after the feeds acc; the next signal is low at least
abbrev pub parse_feeds : ℕ → ℕ → ℕ → List Feed → List ℕ → Read (List Feed)
parse_feeds own zero low acc l = done acc l
parse_feeds own (suc n) low acc l =
    and_then (parse_feed own low l) (λ f l₁. parse_feeds own n (suc f.signal) (acc ++ (f ∷ [])) l₁)

-- a gate with signal own: 7 "over 16 feeds in a file", 6 "T off limits", then its feeds, and after them 24, "a broken margin"
abbrev pub parse_gate : Board → ℕ → List ℕ → Read Gate
parse_gate b own l =
    byte_then l (λ n l₁.
    check (leb n 16) 7
    (int_then l₁ (λ t l₂.
    check (in_scale t) 6
    (and_then (parse_feeds own n 0 [] l₂) (λ fs l₃.
    check (keeps b (record { feeds = fs; threshold = t })) 24
    (done (record { feeds = fs; threshold = t }) l₃))))))

abbrev pub parse_gates : Board → ℕ → ℕ → List Gate → List ℕ → Read (List Gate)
parse_gates b own zero acc l = done acc l
parse_gates b own (suc n) acc l = and_then (parse_gate b own l) (λ g l₁. parse_gates b (suc own) n (acc ++ (g ∷ [])) l₁)

-- n outputs of a network with so many inputs and gates, after the outputs acc: 8 "no gate has that signal"
abbrev pub parse_outputs : ℕ → ℕ → ℕ → List ℕ → List ℕ → Read (List ℕ)
parse_outputs inputs gates zero acc l = done acc l
parse_outputs inputs gates (suc n) acc l =
    byte_then l (λ s l₁. check (gate_signal inputs gates s) 8 (parse_outputs inputs gates n (acc ++ (s ∷ [])) l₁))

-- the network of a file's board, inputs, gates and outputs
abbrev pub net_read : Board → ℕ → List Gate → List ℕ → Net
net_read b i gs os = record { board = b; inputs = i; gates = gs; outputs = os }

-- 9 "bytes after the last output"
abbrev pub at_end : Net → List ℕ → Read Net
at_end N [] = done N []
at_end N (b ∷ l) = refused 9

abbrev pub parse_body : Board → ℕ → ℕ → ℕ → List ℕ → Read Net
parse_body b i g o l =
    and_then (parse_gates b i g [] l) (λ gs l₁.
    and_then (parse_outputs i g o [] l₁) (λ os l₂.
    at_end (net_read b i gs os) l₂))

-- 3 "inputs, gates or outputs off limits"
abbrev pub parse_counts : Board → List ℕ → Read Net
parse_counts b l =
    byte_then l (λ i l₁.
    check (between 1 40 i) 3
    (byte_then l₁ (λ g l₂.
    check (between 1 128 g) 3
    (byte_then l₂ (λ o l₃.
    check (between 1 16 o) 3
    (parse_body b i g o l₃))))))

-- "Version 1 means 0 and 1"; version 2 has a byte for each margin, "the latter at least 1 (else 3)"
abbrev pub parse_board : ℕ → List ℕ → Read Board
parse_board v l =
    cond (eqb v 1) (done (record { version = 1; on = 0; off = 1 }) l)
    (byte_then l (λ on l₁.
    byte_then l₁ (λ off l₂.
    check (leb 1 off) 3
    (done (record { version = 2; on = on; off = off }) l₂))))

-- "both versions are read (any other gives 2)"
abbrev pub parse_version : List ℕ → Read Net
parse_version l =
    byte_then l (λ v l₁.
    byte_then l₁ (λ w l₂.
    check (between 1 2 v && eqb w 0) 2
    (and_then (parse_board v l₂) parse_counts)))

-- a whole file: 1 "under 8 bytes", and "not `PMN`"
abbrev pub parse_file : List ℕ → Read Net
parse_file l =
    check (leb 8 (length l)) 1
    (byte_then l (λ p l₁.
    byte_then l₁ (λ m l₂.
    byte_then l₂ (λ n l₃.
    check (eqb p 80 && (eqb m 77 && eqb n 78)) 1
    (parse_version l₃)))))

-- a list of bytes
abbrev pub Bytes : List ℕ → Type 0
Bytes [] = Unit {0}
Bytes (b ∷ l) = (b < 256) × Bytes l
