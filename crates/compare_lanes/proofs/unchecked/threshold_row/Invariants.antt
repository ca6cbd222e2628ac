use Rattle.std.specs.Prelude.{pos, get_or, replicate}
use Rattle.std.specs.Int.Signed.{le_z}
use Rattle.network.specs.Places.{Pasted}
use Rattle.frame_lanes.specs.Lanes.{mask_of}
use Rattle.compare_lanes.proofs.unchecked.threshold_row.Given as goal

-- so many lanes have their masks
abbrev pub invariant-loop-f : goal.invariant-loop-f
invariant-loop-f l = Pasted (pos 0) 0 l.f (λ k. mask_of (le_z l.threshold (get_or l.sums k (pos 0)))) (replicate 32 (pos 0)) l.row
