-- The places passed so far hold the new signals.
use Rattle.std.proofs.Common.{get_or}
use Rattle.network.specs.Places.{Pasted}
use Rattle.cut_signals.proofs.unchecked.renamed_row.Given as goal

abbrev pub invariant-loop-signal : goal.invariant-loop-signal
invariant-loop-signal l = Pasted 0 0 l.signal-index (λ k. get_or l.numbers (get_or l.initial.signal-items k 0) 0) l.initial.signal-items l.signal-items
