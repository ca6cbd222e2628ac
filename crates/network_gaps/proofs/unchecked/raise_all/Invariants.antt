-- The signals passed so far are raised. Assumes nothing.
use Rattle.std.proofs.Common.{get_or}
use Rattle.network.specs.Changes.{raised}
use Rattle.network.specs.Places.{Pasted}
use Rattle.network_gaps.proofs.unchecked.raise_all.Given as goal

abbrev pub invariant-loop-signal : goal.invariant-loop-signal
invariant-loop-signal l = Pasted 0 0 l.signal-index (λ k. raised l.u (get_or l.fn.signals k 0)) l.fn.signals l.signal-items
