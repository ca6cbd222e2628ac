use Rattle.alley_theory.proofs.StepLaws.{lane_by_lane}
use Rattle.alley_sheet.proofs.lane_by_lane.Goals as goal

pub returns : goal.returns
returns c = lane_by_lane
