use Rattle.compare_theory.specs.Tables.{joint_of}
use Rattle.compare_theory.specs.Decisions.{Decided}
use Rattle.compare_refutation.proofs.unchecked.refute.Given as goal

-- every assignment that fits and extends the bits at the start extends those held, as far as it meets the decisions on which they rest
abbrev pub invariant-loop-left : goal.invariant-loop-left
invariant-loop-left l = Decided (joint_of l.joint) l.fn.bits l.decisions.chosen l.decisions.tried l.held.bits l.held.rests
