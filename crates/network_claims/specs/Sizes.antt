-- The size report in other words: levels as longest paths, and the cost as the sum over all places of the record. Document 01, "Size report and
-- `fold`", and document 02, No. 3. Nothing is proved here.
use Rattle.std.specs.Prelude.{◌≡◌, true, ◌⊎◌, List, [], ◌∷◌, ℕ, zero, suc, ◌+◌, ◌≤◌, T, ℤ, nat_abs}
use Rattle.network.specs.Threshold.{Feed, Net}
use Rattle.network.specs.Limits.{is_gate}
use Rattle.network.specs.Changes.{gate_at}
use Rattle.network.specs.Record.{net_of, sound_record}
use Rattle.network.specs.declared.Network.{Network}
use Rattle.network_report.specs.Size.{reported}

-- ---- levels: "one more than its highest feed"; "A gate without feeds now has level 0"

-- s is the signal of one of the feeds
abbrev pub Feeds : ℕ → List Feed → Type 0
Feeds s [] = ⊥
Feeds s (f ∷ fs) = (f.signal ≡ s) ⊎ Feeds s fs

-- a path of n gates with feeds down from a signal: a gate, one of its feeds, and a path of one gate less from there
abbrev pub Path : Net → ℕ → ℕ → Type 0
Path N s zero = Unit {0}
Path N s (suc n) = T (is_gate N s) × ((f : ℕ) × Feeds f (gate_at N s).feeds × Path N f n)

-- "the network has the highest": some path has n gates, and none has more
pub record LongestPath (N : Net) (n : ℕ) : Type 0 where
  pub some : (s : ℕ) × Path N s n
  pub none_longer : (s m : ℕ) → Path N s m → m ≤ n

-- ---- cost: "|weights| and |T|"

-- the sizes of a list of integers, added up
abbrev pub sizes_of : List ℤ → ℕ
sizes_of [] = 0
sizes_of (z ∷ zs) = nat_abs z + sizes_of zs

-- ---- the report of a sound record: the cost is the sum over all 2,048 places of its weights and all 128 of its thresholds, since "spare places
-- hold 0"
pub record Measured (r : Network) : Type 0 where
  pub accepts : (reported r).code ≡ 0
  pub gates_are : (reported r).gates ≡ r.gates
  pub cost_is : (reported r).cost ≡ sizes_of r.weights + sizes_of r.thresholds
  pub levels_are : LongestPath (net_of r) (reported r).levels

abbrev pub ReportMeant : Network → Type 0
ReportMeant r = sound_record r ≡ true → Measured r
