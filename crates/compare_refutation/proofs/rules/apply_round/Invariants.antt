use Rattle.compare_theory.specs.Joint.{FitsJoint}
use Rattle.compare_theory.specs.Tables.{joint_of}
use Rattle.compare_theory.specs.Reasons.{Propagated}
use Rattle.compare_refutation.proofs.rules.apply_round.Given as goal

abbrev pub invariant-loop-k : goal.invariant-loop-k
invariant-loop-k l = Propagated (FitsJoint (joint_of l.joint)) l.fn.held.bits l.fn.held.rests l.held.bits l.held.rests 0 0
