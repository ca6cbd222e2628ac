-- The rest of the list leads from here to the state after the whole list. Assumes nothing.
use Rattle.journal.specs.Records.{state_of}
use Rattle.call_lists.proofs.RunTurns.{Reached}
use Rattle.call_lists.proofs.unchecked.run.Given as goal

abbrev pub invariant-loop-i : goal.invariant-loop-i
invariant-loop-i l = Reached (state_of l.initial.held) l.numbers l.i l.held
