use Rattle.std.specs.Prelude.{ℕ, ◌<◌}
use Rattle.compare_lanes.specs.Lanes.{lane_bits}
use Rattle.compare_lanes.specs.Reading.{SameBits}
use Rattle.compare_lanes.proofs.unchecked.lane_apart.Given as goal

abbrev pub invariant-loop-j : goal.invariant-loop-j
invariant-loop-j l = (f : ℕ) → f < 32 → SameBits (lane_bits l.lanes f) l.drivers l.outs l.j
