-- Every place but the first is moved.
use Rattle.std.specs.Prelude.{◌≡◌}
use Rattle.std.proofs.Common.{arith}
use Rattle.compare_joint.specs.RowLaws.{row_moved}
use Rattle.compare_joint.proofs.unchecked.wiring.move_row.Goals as goal

pub returns : goal.returns
returns c =
    let full : c.loop-i.i ≡ 16 = omega arith in
    row_moved c.args.p c.args.q c.told-row (rw full at c.loop-i.invariant)
