-- Every signal is moved.
use Rattle.std.proofs.Common.{arith}
use Rattle.compare_theory.specs.Wiring.{moved}
use Rattle.compare_joint.specs.RowLaws.{mapped}
use Rattle.compare_joint.proofs.unchecked.wiring.rewire_outputs.Goals as goal

pub returns : goal.returns
returns c = mapped 0 (moved c.args.p c.args.q) c.loop-signal.invariant (omega arith)
