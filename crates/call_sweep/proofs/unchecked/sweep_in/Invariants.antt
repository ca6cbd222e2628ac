-- The sweep of the record that is reached is the whole sweep (TurnLaws). Assumes nothing.
use Rattle.call_sweep.proofs.TurnLaws.{Reached}
use Rattle.call_sweep.proofs.unchecked.sweep_in.Given as goal

abbrev pub invariant-loop-collapses : goal.invariant-loop-collapses
invariant-loop-collapses l = Reached l.fn.held l.fn.b l.fn.held.network.gates l.held.network l.held.journal l.memory.refusers l.collapses
