-- The signals of gates that are the same.
use Rattle.std.specs.Prelude.{◌-◌}
use Rattle.std.proofs.Common.{arith}
use Rattle.compare_theory.specs.Tables.{joint_of}
use Rattle.compare_merging.specs.TwinLaws.{twins_alike}
use Rattle.compare_merging.proofs.unchecked.showing.are_twins.Goals as goal

pub returns : goal.returns
returns c = λ e.
    let a = c.args in
    let inputs = a.joint.now.inputs in
    twins_alike (joint_of a.joint.now) a.p a.q (a.p - inputs) (a.q - inputs) (omega (arith, c.if-p-joint.false)) (omega (arith, c.if-q-joint.false))
    c.if-joint-g.false c.if-joint-h.false (c.same_gate.ensures e)
