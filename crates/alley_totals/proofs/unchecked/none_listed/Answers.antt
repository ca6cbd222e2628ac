use Rattle.std.proofs.Common.{refl}
use Rattle.alley_theory.specs.Answers.{as_listed}
use Rattle.alley_totals.proofs.unchecked.none_listed.Goals as goal

pub returns : goal.returns
unfolding as_listed
returns c = refl
