use Rattle.std.specs.Prelude.{cond, pos, ◌+ℤ◌, get_or}
use Rattle.network.specs.Places.{Pasted}
use Rattle.frame_lanes.specs.Lanes.{is_on}
use Rattle.compare_lanes.proofs.unchecked.add_feed.Given as goal

abbrev pub invariant-loop-f : goal.invariant-loop-f
invariant-loop-f l = Pasted (pos 0) 0 l.f (λ k. get_or l.fn.sums k (pos 0) +ℤ cond (is_on (get_or l.row k (pos 0))) l.weight (pos 0)) l.fn.sums l.sums
