-- The lanes below f have the input's masks.
use Rattle.std.proofs.Common.{◌*◌, get_or, pos}
use Rattle.network.specs.Threshold.{frame}
use Rattle.network.specs.Places.{Pasted}
use Rattle.frame_lanes.specs.Lanes.{mask_of}
use Rattle.frame_pass.proofs.unchecked.put_input.Given as goal

abbrev pub invariant-loop-f : goal.invariant-loop-f
invariant-loop-f l = Pasted (pos 0) (64 * l.i) l.f (λ k. mask_of (frame (get_or l.frames k 0) l.i)) l.initial.masks l.masks
