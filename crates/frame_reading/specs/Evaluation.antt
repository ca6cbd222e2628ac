-- Internal: what the evaluation of a network goes by: the assignment that an array of bits holds, and what the arrays of a record need so that
-- it may run. Nothing is proved here.
use Rattle.std.specs.Prelude.{◌≡◌, Bool, true, false, List, ℕ, ◌≤◌, ◌<◌, get_or}
use Rattle.network.specs.Threshold.{Assignment, fits_frame}

-- the assignment that an array of bits holds: signal s has the bit at place s, and 0 past the end
abbrev pub bits_in : List Bool → Assignment
bits_in a = λ s. get_or a s false

-- the counts lie within the arrays, and frame x has no bit past the inputs
pub record CanRun (fanins : List ℕ) (inputs gates x : ℕ) : Type 0 where
  pub few_inputs : inputs ≤ 40
  pub few_gates : gates ≤ 128
  pub few_feeds : (g : ℕ) → g < gates → get_or fanins g 0 ≤ 16
  pub fits : fits_frame inputs x ≡ true
