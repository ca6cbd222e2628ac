use Rattle.alley_theory.specs.Alley.{cut_short, lane_entry}
use Rattle.alley_theory.proofs.EntryLaws.{entry_made}
use Rattle.alley_lane.proofs.unchecked.lane_entry.Goals as goal

pub returns-else-found : goal.returns-else-found
unfolding lane_entry
returns-else-found c = rw c.if-found.false (entry_made cut_short tt c.refused_entry.ensures)
