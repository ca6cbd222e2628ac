-- The loop ends.
use Rattle.std.proofs.Common.{◌-◌, length}
use Rattle.fold.proofs.input.read_full.Given as goal

abbrev pub decreases-loop-done : goal.decreases-loop-done
decreases-loop-done g l = length l.initial.buffer - l.done
