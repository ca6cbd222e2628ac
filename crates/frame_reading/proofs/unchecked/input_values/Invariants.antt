-- The inputs below i have the frame's bits, and the rest of the array is 0.
use Rattle.frame_reading.proofs.SignalLaws.{Inputs}
use Rattle.frame_reading.proofs.unchecked.input_values.Given as goal

abbrev pub invariant-loop-i : goal.invariant-loop-i
invariant-loop-i l = Inputs l.x l.i l.values
