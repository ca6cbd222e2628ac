-- A lane that is refused in its header. Assumes nothing.
use Rattle.std.specs.Prelude.{◌≡◌, List, ℕ}
use Rattle.basics.specs.Refusals.{refused, bind}
use Rattle.pmn_format.specs.Format.{Read, parse_file}
use Rattle.pmn_opening.specs.Files.{as_answer, read_net}
use Rattle.alley_theory.specs.Alley.{whole, lane_entry}

-- the read's refusal is the lane's
pub refused_lane : (file : List ℕ) {k : ℕ} → parse_file file ≡ Read.refused k → refused k ≡ lane_entry (whole file)
unfolding lane_entry read_net as_answer bind
refused_lane file e = rw e
