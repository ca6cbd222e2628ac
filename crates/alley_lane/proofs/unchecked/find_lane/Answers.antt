use Rattle.std.proofs.Common.{arith}
use Rattle.alley_theory.proofs.FoundLaws.{found_cut, found_whole}
use Rattle.alley_lane.proofs.unchecked.find_lane.Goals as goal

pub returns-then-available-lt2 : goal.returns-then-available-lt2
returns-then-available-lt2 c = found_cut c.args.last c.args.bytes.now (λ h. absurd (omega arith)) c.cut_off.ensures

pub returns-then-available-length : goal.returns-then-available-length
returns-then-available-length c = found_cut c.args.last c.args.bytes.now (λ h. omega arith) c.cut_off-then-available-length.ensures

pub returns : goal.returns
returns c = found_whole c.args.last c.args.bytes.now (omega arith) (omega arith) (omega arith)
