use Rattle.std.specs.Prelude.{◌+◌, pos, replicate}
use Rattle.network.specs.Threshold.{frame}
use Rattle.network.specs.Places.{Pasted}
use Rattle.frame_lanes.specs.Lanes.{mask_of}
use Rattle.compare_lanes.proofs.unchecked.frame_row.Given as goal

-- so many lanes have their masks
abbrev pub invariant-loop-f : goal.invariant-loop-f
invariant-loop-f l = Pasted (pos 0) 0 l.f (λ k. mask_of (frame (l.first + k) l.i)) (replicate 32 (pos 0)) l.row
