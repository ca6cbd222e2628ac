use Rattle.std.proofs.Common.{refl}
use Rattle.scorer_tally.specs.Sheets.{as_sheet}
use Rattle.scorer_tally.proofs.unchecked.refused.Goals as goal

pub returns : goal.returns
unfolding as_sheet
returns c = refl
