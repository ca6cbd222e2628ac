-- Internal: what the functions of this crate promise each other and ask for. Nothing is proved here.
use Rattle.std.specs.Prelude.{◌≡◌, Bool, true, false, cond, List, ℕ, zero, suc, ◌-◌, ◌≤◌, ◌<◌, length, take, drop}
use Rattle.alley_theory.specs.Alley.{Lane, whole, cut_short, Size, lane_entry}
use Rattle.alley_theory.specs.Answers.{Front, lane_at, nothing, front, as_entry, sound_totals}
use Rattle.alley_theory.specs.declared.Entry.{Entry}
use Rattle.alley_theory.specs.declared.Totals.{Totals}
use Rattle.alley_theory.specs.declared.Found.{Found}
use Rattle.basics.specs.Refusals.{Answer, accepted, refused}

-- the size where the code is 0, else the refusal
unfoldable pub size_or_refusal : ℕ → Size → Answer Size
size_or_refusal zero f = accepted f
size_or_refusal (suc k) f = refused (suc k)

unfoldable pub entry_in : Entry → Answer Size
entry_in e = size_or_refusal e.code (record { gates = e.gates; cost = e.cost })

abbrev pub size_with : ℕ → ℕ → Size
size_with gates cost = record { gates = gates; cost = cost }

-- ---- entries

-- an entry that a lane can have
pub record Listable (e : Entry) : Type 0 where
  pub few_gates : e.gates ≤ 128
  pub small_cost : e.cost ≤ 2176000000
  pub number : e.code < 100
  pub same : as_entry (entry_in e) ≡ e

-- the entry of a lane
pub record EntryFor (l : Lane) (e : Entry) : Type 0 where
  pub is : entry_in e ≡ lane_entry l
  pub listable : Listable e

-- ---- the first lane

-- the lane by whether it is whole, and how many bytes it takes with its length
abbrev pub lane_by : List ℕ → Bool → ℕ → Lane
lane_by s true n = whole (take (n - 2) (drop 2 s))
lane_by s false n = cut_short

abbrev pub lane_in : List ℕ → Found → Lane
lane_in s f = lane_by s f.complete f.taken

-- no bytes taken: no lane
abbrev pub front_by : List ℕ → Bool → ℕ → Front
front_by s w zero = nothing
front_by s w (suc n) = lane_at (suc n) (lane_by s w (suc n))

-- n bytes that end before the lane does
abbrev pub cut_off : Bool → ℕ → Found
cut_off last n = record { taken = cond last n 0; complete = false }

-- what was found lies in the bytes
pub record FoundInside (s : List ℕ) (f : Found) : Type 0 where
  pub within : f.taken ≤ length s
  pub long : f.complete ≡ true → 2 ≤ f.taken

-- f is the first lane
pub record FoundIn (last : Bool) (s : List ℕ) (f : Found) : Type 0 where
  pub inside : FoundInside s f
  pub is : front_by s f.complete f.taken ≡ front last s

-- ---- totals that take one lane more
pub record TotalsOpen (t : Totals) : Type 0 where
  pub sound : sound_totals t ≡ true
  pub room : t.lanes < 65535
