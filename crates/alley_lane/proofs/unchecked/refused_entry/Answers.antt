use Rattle.std.proofs.Common.{refl}
use Rattle.alley_theory.specs.Answers.{as_entry}
use Rattle.alley_lane.proofs.unchecked.refused_entry.Goals as goal

pub returns : goal.returns
unfolding as_entry
returns c = refl
