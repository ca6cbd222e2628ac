-- The signals passed so far are lowered. Assumes nothing.
use Rattle.std.proofs.Common.{get_or}
use Rattle.network.specs.Changes.{lowered}
use Rattle.network.specs.Places.{Pasted}
use Rattle.network_removal.proofs.unchecked.lower_all.Given as goal

abbrev pub invariant-loop-signal : goal.invariant-loop-signal
invariant-loop-signal l = Pasted 0 0 l.signal-index (λ k. lowered l.u (get_or l.fn.signals k 0)) l.fn.signals l.signal-items
