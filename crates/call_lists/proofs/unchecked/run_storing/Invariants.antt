-- The rest of the list leads from here to the state after the whole list, and the answers of the calls before are stored. Assumes nothing.
use Rattle.journal.specs.Records.{state_of}
use Rattle.call_lists.proofs.RunTurns.{Reached, Answered}
use Rattle.call_lists.proofs.unchecked.run_storing.Given as goal

abbrev pub invariant-loop-i : goal.invariant-loop-i
invariant-loop-i l =
    let q = state_of l.initial.held in
    Reached q l.numbers l.i l.held × Answered q l.numbers l.i l.held l.fn.answers l.answers
