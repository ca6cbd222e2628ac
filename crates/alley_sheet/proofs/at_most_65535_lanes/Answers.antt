use Rattle.alley_theory.proofs.LaneLaws.{lanes_claim}
use Rattle.alley_sheet.proofs.at_most_65535_lanes.Goals as goal

pub returns : goal.returns
returns c = lanes_claim
