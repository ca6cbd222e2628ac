-- Document 02, No. 13, on records: any two with equal input and output counts, and any two moments of one list of calls. Nothing is
-- proved here.
use Rattle.std.specs.Prelude.{◌≡◌, true, List, ℕ, take}
use Rattle.network.specs.Threshold.{Net}
use Rattle.network.specs.Record.{net_of, sound_record}
use Rattle.network.specs.declared.Network.{Network}
use Rattle.call_theory.specs.declared.Call.{Call}
use Rattle.journal.specs.declared.Record.{Record}
use Rattle.question_theory.specs.Question.{alike}
use Rattle.guarantees.specs.Lists.{calls_on}
use Rattle.question_count.specs.Counting.{solutions, ways, CountClaim}

-- "For any two networks with equal input and output counts"
abbrev pub SolutionsCounted : Network → Network → Type 0
SolutionsCounted a b = sound_record a ≡ true → sound_record b ≡ true → alike (net_of a) (net_of b) ≡ true → CountClaim (net_of a) (net_of b)

-- a moment of a list of calls from the record r on: the network after its first k calls, or after all of them where it has no more
abbrev pub moment : Record → List Call → ℕ → Net
moment r calls k = net_of (calls_on r (take k calls)).network

-- "This also holds between any two moments of one list of calls, where the sum is 0", and so is the number of solutions
pub record MomentClaim (r : Record) (calls : List Call) (k l : ℕ) : Type 0 where
  pub same_counts : alike (moment r calls k) (moment r calls l) ≡ true
  pub claim : CountClaim (moment r calls k) (moment r calls l)
  pub no_way : ways (moment r calls k) (moment r calls l) ≡ 0
  pub no_solution : solutions (moment r calls k) (moment r calls l) ≡ 0
