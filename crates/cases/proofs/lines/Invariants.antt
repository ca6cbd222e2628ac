-- The loop ends.
use Rattle.std.proofs.Common.{◌-◌}
use Rattle.cases.proofs.lines.Given as goal

abbrev pub decreases-loop-at : goal.decreases-loop-at
decreases-loop-at g l = l.length - l.at
