-- Every row is moved.
use Rattle.std.specs.Prelude.{[]}
use Rattle.std.proofs.Common.{arith}
use Rattle.compare_theory.specs.Wiring.{moved_row}
use Rattle.compare_joint.specs.RowLaws.{mapped}
use Rattle.compare_joint.proofs.unchecked.wiring.rewire_rows.Goals as goal

pub returns : goal.returns
returns c = mapped [] (moved_row c.args.p c.args.q) c.loop-row.invariant (omega arith)
