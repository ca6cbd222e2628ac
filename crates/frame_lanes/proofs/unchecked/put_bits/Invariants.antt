-- The lanes below f have their masks.
use Rattle.std.proofs.Common.{get_or, pos}
use Rattle.std.specs.Int.Signed.{le_z}
use Rattle.network.specs.Places.{Pasted}
use Rattle.frame_lanes.specs.Lanes.{mask_of}
use Rattle.frame_lanes.proofs.unchecked.put_bits.Given as goal

abbrev pub invariant-loop-f : goal.invariant-loop-f
invariant-loop-f l = Pasted (pos 0) l.from l.f (λ k. mask_of (le_z l.threshold (get_or l.sums k (pos 0)))) l.initial.masks l.masks
