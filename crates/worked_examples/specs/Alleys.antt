-- Alley files by their bytes, and their sheets: document 02, No. 6, "a run of lanes, each a 16-bit little-endian length and a PMN file of that
-- length", and "one cut short by the end of the alley file, even in its length". Texts are in ASCII. Nothing is proved here.
use Rattle.std.specs.Prelude.{◌≡◌, List, [], ◌∷◌, ◌++◌, map, ℕ, zero, suc}
use Rattle.alley_theory.specs.Alley.{sheet}
use Rattle.worked_examples.specs.Literal.{bytes_f}

pub record AlleyRow : Type 0 where
  pub bytes : List ℕ
  pub lists : List ℕ

abbrev prints : List ℕ → List ℕ → AlleyRow
prints bytes text = record { bytes = bytes; lists = text }

-- ---- lanes

-- F, of 39 bytes
abbrev lane_f : List ℕ
lane_f = 39 ∷ 0 ∷ bytes_f

-- gates without feeds, T = 3 each
abbrev threes : ℕ → List ℕ → List ℕ
threes zero l = l
threes (suc n) l = 0 ∷ 3 ∷ 0 ∷ 0 ∷ 0 ∷ threes n l

-- 52 of them, in 269 bytes, which are 13 and 1 times 256
abbrev long_lane : List ℕ
long_lane = 13 ∷ 1 ∷ 80 ∷ 77 ∷ 78 ∷ 1 ∷ 0 ∷ 1 ∷ 52 ∷ 1 ∷ threes 52 (52 ∷ [])

-- eight bytes with another mark
abbrev foreign_lane : List ℕ
foreign_lane = 8 ∷ 0 ∷ 80 ∷ 77 ∷ 88 ∷ 1 ∷ 0 ∷ 1 ∷ 1 ∷ 1 ∷ []

-- ---- lines

-- `1 2 18`, `2 2 18`, `3 2 18`: F in the lane with this digit
abbrev line_f : ℕ → List ℕ
line_f digit = digit ∷ 32 ∷ 50 ∷ 32 ∷ 49 ∷ 56 ∷ 10 ∷ []

-- `1 52 156`
abbrev long_line : List ℕ
long_line = 49 ∷ 32 ∷ 53 ∷ 50 ∷ 32 ∷ 49 ∷ 53 ∷ 54 ∷ 10 ∷ []

-- `1 refused 4`: the lane's digit and that of the number
abbrev refused_line : ℕ → ℕ → List ℕ
refused_line digit number = digit ∷ 32 ∷ 114 ∷ 101 ∷ 102 ∷ 117 ∷ 115 ∷ 101 ∷ 100 ∷ 32 ∷ number ∷ 10 ∷ []

-- `total ` and both sums
abbrev total_line : List ℕ → List ℕ
total_line sums = 116 ∷ 111 ∷ 116 ∷ 97 ∷ 108 ∷ 32 ∷ sums

-- `0 0`, `2 18`, `4 36`, `54 174`
abbrev nothing : List ℕ
nothing = total_line (48 ∷ 32 ∷ 48 ∷ 10 ∷ [])

abbrev one_f : List ℕ
one_f = total_line (50 ∷ 32 ∷ 49 ∷ 56 ∷ 10 ∷ [])

abbrev two_f : List ℕ
two_f = total_line (52 ∷ 32 ∷ 51 ∷ 54 ∷ 10 ∷ [])

abbrev long_and_f : List ℕ
long_and_f = total_line (53 ∷ 52 ∷ 32 ∷ 49 ∷ 55 ∷ 52 ∷ 10 ∷ [])

-- ---- what is listed: "An alley file without lanes prints `total 0 0`", one lane, and one of more than 255 bytes before it
unfoldable pub listed : List AlleyRow
listed =
    prints [] nothing
    ∷ prints lane_f (line_f 49 ++ one_f)
    ∷ prints (long_lane ++ lane_f) (long_line ++ (line_f 50 ++ long_and_f))
    ∷ []

-- ---- "one cut short by the end of the alley file, even in its length, prints 4": in the first lane's length; in the second's; in the second
-- lane, which has one byte less than its length says, though these bytes are F
unfoldable pub cut_lanes : List AlleyRow
cut_lanes =
    prints (39 ∷ []) (refused_line 49 52 ++ nothing)
    ∷ prints (lane_f ++ (39 ∷ [])) (line_f 49 ++ (refused_line 50 52 ++ one_f))
    ∷ prints (lane_f ++ (40 ∷ 0 ∷ bytes_f)) (line_f 49 ++ (refused_line 50 52 ++ one_f))
    ∷ []

-- ---- a lane that can't be read "counts as nothing in both sums", and the lanes go on: one of no bytes, one with another mark, and one that ends
-- before F does, so that F's last byte is a length cut short
unfoldable pub refused_lanes : List AlleyRow
refused_lanes =
    prints (0 ∷ 0 ∷ lane_f) (refused_line 49 49 ++ (line_f 50 ++ one_f))
    ∷ prints (foreign_lane ++ (lane_f ++ lane_f)) (refused_line 49 49 ++ (line_f 50 ++ (line_f 51 ++ two_f)))
    ∷ prints (38 ∷ 0 ∷ bytes_f) (refused_line 49 52 ++ (refused_line 50 52 ++ nothing))
    ∷ []

-- ---- the alleys of a table have the sheets that it says
abbrev pub ListedAsSaid : List AlleyRow → Type 0
ListedAsSaid rows = map (λ row. sheet row.bytes) rows ≡ map (λ row. row.lists) rows

pub record AlleysListed : Type 0 where
  pub are_listed : ListedAsSaid listed
  pub are_cut : ListedAsSaid cut_lanes
  pub are_refused : ListedAsSaid refused_lanes
