-- Every input is in the lanes at the end.
use Rattle.std.proofs.Common.{◌≡◌, arith}
use Rattle.frame_pass.proofs.SignalLaneLaws.{input_lanes_none, input_lanes_next, input_lanes_all}
use Rattle.frame_pass.proofs.unchecked.put_inputs.Goals as goal

pub loop-i-init : goal.loop-i-init
loop-i-init c = input_lanes_none c.args.frames.now c.requires.blank

pub loop-i-preserved : goal.loop-i-preserved
loop-i-preserved c = input_lanes_next c.loop-i.invariant (omega (arith, c.requires.few_inputs)) c.put_input.ensures

pub returns : goal.returns
returns c =
    let e : c.loop-i.i ≡ c.args.inputs = omega arith in
    input_lanes_all (rw e at c.loop-i.invariant) c.requires
