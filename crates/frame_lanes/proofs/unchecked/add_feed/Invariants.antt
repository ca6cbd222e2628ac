-- The lanes below f have the feed.
use Rattle.std.proofs.Common.{◌+◌, cond, get_or, pos, ◌+ℤ◌}
use Rattle.network.specs.Places.{Pasted}
use Rattle.frame_lanes.specs.Lanes.{is_on}
use Rattle.frame_lanes.proofs.unchecked.add_feed.Given as goal

abbrev pub invariant-loop-f : goal.invariant-loop-f
invariant-loop-f l =
    Pasted (pos 0) 0 l.f (λ k. get_or l.initial.sums k (pos 0) +ℤ cond (is_on (get_or l.masks (l.from + k) (pos 0))) l.weight (pos 0)) l.initial.sums l.sums
