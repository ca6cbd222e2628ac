-- Each read fills some of what is left.
use Rattle.std.proofs.Common.{length, ◌-◌, ◌≤◌}
use Rattle.alley.proofs.stream.fill.Given as goal

abbrev pub invariant-loop-end : goal.invariant-loop-end
invariant-loop-end g l = l.end ≤ length l.input

abbrev pub decreases-loop-end : goal.decreases-loop-end
decreases-loop-end g l = length l.initial.input - l.end
