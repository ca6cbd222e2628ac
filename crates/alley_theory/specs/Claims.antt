-- What is claimed of every alley file. Nothing is proved here.
use Rattle.std.specs.Prelude.{◌≡◌, Bool, true, cond, List, [], ◌∷◌, ◌++◌, map, ℕ, ◌+◌, ◌-◌, ◌%◌, ◌/◌, ◌≤◌, ◌<◌, eqb, length, take, drop}
use Rattle.basics.specs.Library.{some}
use Rattle.basics.specs.Lists.{Each}
use Rattle.basics.specs.Refusals.{Answer}
use Rattle.network.specs.declared.Network.{Network}
use Rattle.pmn_format.specs.Format.{Bytes}
use Rattle.network_report.specs.Size.{reported}
use Rattle.pmn_reader.specs.Answers.{loaded}
use Rattle.alley_theory.specs.Alley.{Lane, whole, cut_short, Size, lanes_up_to, lanes, lane_entry, lane_entries, plus_size, total_size, lines_text}
use Rattle.alley_theory.specs.Alley.{total_text, sheet}
use Rattle.alley_theory.specs.Answers.{no_lanes, sums, sound_totals, LaneStep, step}
use Rattle.alley_theory.specs.ReadBack.{SheetRead, read_back, said_gates, said_cost, lines_for}
use Rattle.alley_theory.specs.declared.Totals.{Totals}

-- ---- "a run of lanes, each a 16-bit little-endian length and a PMN file of that length", written

-- the alley file of some files
unfoldable pub alley_of : List (List ℕ) → List ℕ
alley_of [] = []
alley_of (file ∷ files) = length file % 256 ∷ length file / 256 ∷ (file ++ alley_of files)

-- "At most 65,535 lanes are listed; bytes after the last of them are passed over": of an alley of files that a length can count the first 65,535,
-- and of no bytes more
pub record FirstLanes : Type 0 where
  pub of_files : (files : List (List ℕ)) → Each (λ file. length file < 65536) files → lanes (alley_of files) ≡ map whole (take 65535 files)
  pub at_most : (s : List ℕ) → length (lanes s) ≤ 65535

unfoldable pub sum_of : List ℕ → ℕ
sum_of [] = 0
sum_of (n ∷ ns) = n + sum_of ns

-- ---- "The total equals the sum over the records read"

-- the records of the lanes that a read accepts
unfoldable pub records_of : List Lane → List Network
records_of [] = []
records_of (cut_short ∷ ls) = records_of ls
records_of (whole file ∷ ls) = cond (eqb (loaded file).code 0) ((loaded file).network ∷ records_of ls) (records_of ls)

-- gates and cost of a record as the size report gives them
pub record TotalOfRecords (s : List ℕ) : Type 0 where
  pub gates : (total_size (lane_entries s)).gates ≡ sum_of (map (λ r. (reported r).gates) (records_of (lanes s)))
  pub cost : (total_size (lane_entries s)).cost ≡ sum_of (map (λ r. (reported r).cost) (records_of (lanes s)))

-- ---- "and also the sum of the lines printed"

-- the sheet, read back, says something; each lane's line says its position and its entry; the last line says the total, and that is the
-- sum of what the lines before it say
pub record TotalOfLines (s : List ℕ) : Type 0 where
  pub said : SheetRead
  pub reads : read_back (sheet s) ≡ some said
  pub each_lane : said.lanes ≡ lines_for 1 (lane_entries s)
  pub gates : said.gates ≡ sum_of (map said_gates said.lanes)
  pub cost : said.cost ≡ sum_of (map said_cost said.lanes)
  pub total_gates : said.gates ≡ (total_size (lane_entries s)).gates
  pub total_cost : said.cost ≡ (total_size (lane_entries s)).cost

-- ---- lane by lane: the calls in a row make the sheet

-- what the totals so far and the entries, or the bytes, that are left still print
unfoldable pub rest_text : Totals → List (Answer Size) → List ℕ
rest_text t es = lines_text (t.lanes + 1) es ++ total_text (plus_size (sums t) (total_size es))

unfoldable pub rest : Totals → List ℕ → List ℕ
rest t s = rest_text t (map lane_entry (lanes_up_to (65535 - t.lanes) s))

-- what a step on the bytes s does, after which the bytes later follow
pub record StepClaim (t : Totals) (last : Bool) (s later : List ℕ) (p : LaneStep) : Type 0 where
  -- its line, and then what is left: nothing is lost and nothing printed twice
  pub goes_on : rest t (s ++ later) ≡ p.text ++ rest p.totals (drop p.taken s ++ later)
  -- where the last bytes give no lane, only the total is left
  pub ends : last ≡ true → p.taken ≡ 0 → rest t s ≡ total_text (sums t)
  -- 65,537 bytes always hold a lane
  pub moves : t.lanes < 65535 → 65537 ≤ length s → 0 < p.taken
  -- the totals stay such that no call refuses them, and no line is longer than 21 bytes
  pub stays_sound : sound_totals p.totals ≡ true
  pub short : length p.text ≤ 21

pub record LaneByLane : Type 0 where
  pub starts : (s : List ℕ) → sheet s ≡ rest no_lanes s
  pub starts_sound : sound_totals no_lanes ≡ true
  pub steps : (t : Totals) (last : Bool) (s later : List ℕ) → sound_totals t ≡ true → Bytes s → (last ≡ true → later ≡ [])
      → StepClaim t last s later (step t last s)
