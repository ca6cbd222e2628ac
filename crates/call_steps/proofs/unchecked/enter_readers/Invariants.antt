-- The steps of the gates from g on are left to enter. Assumes nothing.
use Rattle.call_steps.proofs.ReaderLaws.{Left}
use Rattle.call_steps.proofs.unchecked.enter_readers.Given as goal

abbrev pub invariant-loop-g : goal.invariant-loop-g
invariant-loop-g l = Left l.network l.u l.g l.fn.journal l.journal
