-- The feeds so far are in the sum of each lane.
use Rattle.std.proofs.Common.{length}
use Rattle.frame_lanes.proofs.LaneSumLaws.{LanesAdded}
use Rattle.frame_lanes.proofs.unchecked.lane_sums.Given as goal

abbrev pub invariant-loop-signal : goal.invariant-loop-signal
invariant-loop-signal l = LanesAdded l.masks l.network.signals l.network.weights l.base l.count l.block (length l.yielded) l.sums
