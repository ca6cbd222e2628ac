-- The alley file and its sheet, on the whole list of bytes. Document 02, No. 6. Nothing is proved here.
use Rattle.std.specs.Prelude.{cond, List, [], ◌∷◌, ◌++◌, map, ℕ, zero, suc, ◌+◌, ◌*◌, leb, length, take, drop}
use Rattle.basics.specs.Refusals.{Answer, accepted, refused, bind}
use Rattle.texts.specs.Texts.{decimal}
use Rattle.network.specs.Threshold.{Net}
use Rattle.network_report.specs.Size.{cost}
use Rattle.pmn_opening.specs.Files.{read_net}

-- ---- "An alley file is a run of lanes, each a 16-bit little-endian length and a PMN file of that length"

-- a lane: its PMN file, or "one cut short by the end of the alley file, even in its length"
pub data Lane : Type 0 where
  whole : List ℕ → Lane
  cut_short : Lane

-- the number that the two bytes of a length are
abbrev pub lane_length : ℕ → ℕ → ℕ
lane_length low high = low + 256 * high

-- the first lanes, n at most; "bytes after the last of them are passed over"
unfoldable pub lanes_up_to : ℕ → List ℕ → List Lane
lanes_up_to zero s = []
lanes_up_to (suc n) [] = []
lanes_up_to (suc n) (low ∷ []) = cut_short ∷ []
lanes_up_to (suc n) (low ∷ high ∷ s) =
    cond (leb (lane_length low high) (length s))
    (whole (take (lane_length low high) s) ∷ lanes_up_to n (drop (lane_length low high) s))
    (cut_short ∷ [])

-- "At most 65,535 lanes are listed"
unfoldable pub lanes : List ℕ → List Lane
lanes s = lanes_up_to 65535 s

-- ---- what is listed of a lane

-- gates and cost
pub record Size : Type 0 where
  pub gates : ℕ
  pub cost : ℕ

unfoldable pub size_of : Net → Size
size_of N = record { gates = length N.gates; cost = cost N.gates }

-- gates and cost, or the number of the refusal: the read's own, and 4 for a lane cut short, whatever its bytes are
unfoldable pub lane_entry : Lane → Answer Size
lane_entry (whole file) = bind (read_net file) (λ N. accepted (size_of N))
lane_entry cut_short = refused 4

unfoldable pub lane_entries : List ℕ → List (Answer Size)
lane_entries s = map lane_entry (lanes s)

-- ---- both sums

-- "counts as nothing in both sums" where it is refused
unfoldable pub size_counted : Answer Size → Size
size_counted (accepted f) = f
size_counted (refused k) = record { gates = 0; cost = 0 }

abbrev pub plus_size : Size → Size → Size
plus_size a b = record { gates = a.gates + b.gates; cost = a.cost + b.cost }

unfoldable pub total_size : List (Answer Size) → Size
total_size [] = record { gates = 0; cost = 0 }
total_size (e ∷ es) = plus_size (size_counted e) (total_size es)

-- ---- the text, in ASCII: single spaces between, a line feed after each line

-- ` refused ` and `total `
unfoldable pub refused_word : List ℕ
refused_word = 32 ∷ 114 ∷ 101 ∷ 102 ∷ 117 ∷ 115 ∷ 101 ∷ 100 ∷ 32 ∷ []

unfoldable pub total_word : List ℕ
total_word = 116 ∷ 111 ∷ 116 ∷ 97 ∷ 108 ∷ 32 ∷ []

-- gates, cost and a line feed
unfoldable pub size_text : Size → List ℕ
size_text f = decimal f.gates ++ (32 ∷ decimal f.cost ++ (10 ∷ []))

-- "a line with its position (counted from 1), gates and cost", or "its position, `refused` and the number"
unfoldable pub lane_text : ℕ → Answer Size → List ℕ
lane_text position (accepted f) = decimal position ++ (32 ∷ size_text f)
lane_text position (refused k) = decimal position ++ (refused_word ++ (decimal k ++ (10 ∷ [])))

-- a line for each lane, the first at a position
unfoldable pub lines_text : ℕ → List (Answer Size) → List ℕ
lines_text position [] = []
lines_text position (e ∷ es) = lane_text position e ++ lines_text (suc position) es

-- "then a last line `total` with both sums"
unfoldable pub total_text : Size → List ℕ
total_text f = total_word ++ size_text f

unfoldable pub sheet : List ℕ → List ℕ
sheet s = lines_text 1 (lane_entries s) ++ total_text (total_size (lane_entries s))
