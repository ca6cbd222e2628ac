-- What a sheet says when its text is read back, strictly: a line feed ends each line, single spaces part its words, a number is digits only.
-- Nothing is proved here.
use Rattle.std.specs.Prelude.{cond, List, [], ◌∷◌, map, ℕ, suc}
use Rattle.basics.specs.Library.{Option, some, none}
use Rattle.basics.specs.Refusals.{Answer, accepted, refused}
use Rattle.texts.specs.Texts.{parts, same_text, number}
use Rattle.alley_theory.specs.Alley.{Size}

-- ---- a line

-- a lane's line: position, gates and cost, or position and the number of the refusal
pub data LaneLine : Type 0 where
  sized : ℕ → ℕ → ℕ → LaneLine
  refusal : ℕ → ℕ → LaneLine

-- a lane's line, the total's line with both sums, nothing (after the last line feed), or something else
pub data SheetLine : Type 0 where
  lane_said : LaneLine → SheetLine
  totals : ℕ → ℕ → SheetLine
  end : SheetLine
  strange : SheetLine

-- `total` and `refused`
unfoldable pub total_name : List ℕ
total_name = 116 ∷ 111 ∷ 116 ∷ 97 ∷ 108 ∷ []

unfoldable pub refused_name : List ℕ
refused_name = 114 ∷ 101 ∷ 102 ∷ 117 ∷ 115 ∷ 101 ∷ 100 ∷ []

-- numbers, all of which must be said
abbrev pub two : Option ℕ → Option ℕ → (ℕ → ℕ → SheetLine) → SheetLine
two none b f = strange
two (some a) none f = strange
two (some a) (some b) f = f a b

abbrev pub three : Option ℕ → Option ℕ → Option ℕ → (ℕ → ℕ → ℕ → SheetLine) → SheetLine
three none b c f = strange
three (some a) b c f = two b c (f a)

unfoldable pub line_of_three : List ℕ → List ℕ → List ℕ → SheetLine
line_of_three a b c =
    cond (same_text a total_name) (two (number b) (number c) totals)
    (cond (same_text b refused_name) (two (number a) (number c) (λ p k. lane_said (refusal p k)))
    (three (number a) (number b) (number c) (λ p g k. lane_said (sized p g k))))

unfoldable pub sheet_line_of_words : List (List ℕ) → SheetLine
sheet_line_of_words [] = strange
sheet_line_of_words ([] ∷ []) = end
sheet_line_of_words ((c ∷ cs) ∷ []) = strange
sheet_line_of_words (a ∷ b ∷ []) = strange
sheet_line_of_words (a ∷ b ∷ c ∷ []) = line_of_three a b c
sheet_line_of_words (a ∷ b ∷ c ∷ d ∷ ws) = strange

-- the line that a text without a line feed says
unfoldable pub sheet_line_of : List ℕ → SheetLine
sheet_line_of text = sheet_line_of_words (parts 32 text)

-- ---- a sheet: its lanes' lines, and both sums of its last line

pub record SheetRead : Type 0 where
  pub lanes : List LaneLine
  pub gates : ℕ
  pub cost : ℕ

abbrev pub with_lane : LaneLine → Option SheetRead → Option SheetRead
with_lane l none = none
with_lane l (some s) = some (record { lanes = l ∷ s.lanes; gates = s.gates; cost = s.cost })

-- nothing follows the last line's line feed
unfoldable pub closed : SheetRead → List SheetLine → Option SheetRead
closed s [] = none
closed s (lane_said l ∷ ls) = none
closed s (totals g c ∷ ls) = none
closed s (strange ∷ ls) = none
closed s (end ∷ []) = some s
closed s (end ∷ l ∷ ls) = none

unfoldable pub said_by : List SheetLine → Option SheetRead
said_by [] = none
said_by (lane_said l ∷ ls) = with_lane l (said_by ls)
said_by (totals g c ∷ ls) = closed (record { lanes = []; gates = g; cost = c }) ls
said_by (end ∷ ls) = none
said_by (strange ∷ ls) = none

-- what a text says as a sheet
unfoldable pub read_back : List ℕ → Option SheetRead
read_back text = said_by (map sheet_line_of (parts 10 text))

-- ---- what the lines of lanes say

unfoldable pub said_gates : LaneLine → ℕ
said_gates (sized p g c) = g
said_gates (refusal p k) = 0

unfoldable pub said_cost : LaneLine → ℕ
said_cost (sized p g c) = c
said_cost (refusal p k) = 0

-- the line that an entry should say at a position
unfoldable pub line_for : ℕ → Answer Size → LaneLine
line_for p (accepted f) = sized p f.gates f.cost
line_for p (refused k) = refusal p k

unfoldable pub lines_for : ℕ → List (Answer Size) → List LaneLine
lines_for p [] = []
lines_for p (e ∷ es) = line_for p e ∷ lines_for (suc p) es
