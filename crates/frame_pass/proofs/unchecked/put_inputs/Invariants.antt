-- The inputs below i are in the lanes.
use Rattle.frame_pass.proofs.SignalLaneLaws.{InputLanes}
use Rattle.frame_pass.proofs.unchecked.put_inputs.Given as goal

abbrev pub invariant-loop-i : goal.invariant-loop-i
invariant-loop-i l = InputLanes l.frames l.i l.masks
