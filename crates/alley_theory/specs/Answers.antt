-- What the calls answer. A sheet is made lane by lane: a call is lent bytes of the alley file from a lane's start on, and says whether
-- they are its last. Nothing is proved here.
use Rattle.std.specs.Prelude.{Bool, cond, ◌&&◌, List, [], ◌∷◌, ℕ, ◌+◌, ◌*◌, leb, ltb, length, take}
use Rattle.basics.specs.Refusals.{Answer, accepted, refused, ◌else◌, checks}
use Rattle.alley_theory.specs.Alley.{Lane, whole, cut_short, lane_length, Size, lane_entry, size_counted, lane_text, total_text}
use Rattle.alley_theory.specs.declared.Entry.{Entry}
use Rattle.alley_theory.specs.declared.Totals.{Totals}
use Rattle.alley_theory.specs.declared.Listed.{Listed}
use Rattle.alley_theory.specs.declared.LineWritten.{LineWritten}

-- ---- an entry as a value, both ways

unfoldable pub as_entry : Answer Size → Entry
as_entry (accepted f) = record { code = 0; gates = f.gates; cost = f.cost }
as_entry (refused k) = record { code = k; gates = 0; cost = 0 }

-- ---- the running totals

abbrev pub no_lanes : Totals
no_lanes = record { lanes = 0; gates = 0; cost = 0 }

abbrev pub sums : Totals → Size
sums t = record { gates = t.gates; cost = t.cost }

-- one lane more
unfoldable pub with_entry : Totals → Answer Size → Totals
with_entry t e = record { lanes = t.lanes + 1; gates = t.gates + (size_counted e).gates; cost = t.cost + (size_counted e).cost }

-- totals that an alley can have: at most 65,535 lanes, each of at most 128 gates and a cost of at most 128 × 17 × 1,000,000
unfoldable pub sound_totals : Totals → Bool
sound_totals t = leb t.lanes 65535 && (leb t.gates (128 * t.lanes) && leb t.cost (2176000000 * t.lanes))

-- ---- the first lane of bytes

-- a lane and how many bytes it takes, or none: the bytes end before it does, and they are not the last
pub data Front : Type 0 where
  lane_at : ℕ → Lane → Front
  nothing : Front

unfoldable pub front : Bool → List ℕ → Front
front last [] = nothing
front last (low ∷ []) = cond last (lane_at 1 cut_short) nothing
front last (low ∷ high ∷ s) =
    cond (leb (lane_length low high) (length s))
    (lane_at (2 + lane_length low high) (whole (take (lane_length low high) s)))
    (cond last (lane_at (2 + length s) cut_short) nothing)

-- ---- one lane's step: the bytes that it takes, its entry, its line, and the totals after it

pub record LaneStep : Type 0 where
  pub taken : ℕ
  pub entry : Entry
  pub text : List ℕ
  pub totals : Totals

-- no lane: nothing is taken, and nothing written
unfoldable pub idle : Totals → LaneStep
idle t = record { taken = 0; entry = record { code = 0; gates = 0; cost = 0 }; text = []; totals = t }

-- the line's position is one above the number of lanes before it
unfoldable pub listed : Totals → ℕ → Answer Size → LaneStep
listed t n e = record { taken = n; entry = as_entry e; text = lane_text (t.lanes + 1) e; totals = with_entry t e }

unfoldable pub step_from : Totals → Front → LaneStep
step_from t (lane_at n l) = listed t n (lane_entry l)
step_from t nothing = idle t

-- after 65,535 lanes none is listed
unfoldable pub step : Totals → Bool → List ℕ → LaneStep
step t last s = cond (ltb t.lanes 65535) (step_from t (front last s)) (idle t)

-- ---- the calls

-- a step whose line has room
unfoldable pub room_tested : ℕ → LaneStep → Answer LaneStep
room_tested room p = checks ((leb (length p.text) room else 18) ∷ []) (accepted p)

-- order: 20 totals that no alley has, 18 short buffer
unfoldable pub listing : Totals → Bool → List ℕ → ℕ → Answer LaneStep
listing t last s room = checks ((sound_totals t else 20) ∷ []) (room_tested room (step t last s))

unfoldable pub as_listed : Totals → Answer LaneStep → Listed
as_listed t (accepted p) = record { code = 0; taken = p.taken; length = length p.text; entry = p.entry; totals = p.totals }
as_listed t (refused k) = record { code = k; taken = 0; length = 0; entry = record { code = 0; gates = 0; cost = 0 }; totals = t }

-- the line that goes into the lent bytes
unfoldable pub text_of : Answer LaneStep → Answer (List ℕ)
text_of (accepted p) = accepted p.text
text_of (refused k) = refused k

-- the total's line: order 18
unfoldable pub total_answer : Totals → ℕ → Answer (List ℕ)
total_answer t room = checks ((leb (length (total_text (sums t))) room else 18) ∷ []) (accepted (total_text (sums t)))

unfoldable pub as_sheet_line : Answer (List ℕ) → LineWritten
as_sheet_line (accepted text) = record { code = 0; length = length text }
as_sheet_line (refused k) = record { code = k; length = 0 }
