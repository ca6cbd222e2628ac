-- A frame that fits has no bit past the inputs.
use Rattle.std.proofs.Common.{◌≡◌, arith}
use Rattle.frame_reading.proofs.SignalLaws.{inputs_none, inputs_next, inputs_all}
use Rattle.frame_reading.proofs.unchecked.input_values.Goals as goal

pub loop-i-init : goal.loop-i-init
loop-i-init c = inputs_none c.args.x

pub loop-i-preserved : goal.loop-i-preserved
loop-i-preserved c = inputs_next c.loop-i.invariant (omega arith)

pub returns : goal.returns
returns c =
    let e : c.loop-i.i ≡ c.args.inputs = omega arith in
    inputs_all (rw e at c.loop-i.invariant) c.requires.1
