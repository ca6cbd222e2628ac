-- The inputs, the gates and the outputs in the lanes, one after the other.
use Rattle.network.specs.SoundLaws.{sized_of}
use Rattle.frame_pass.proofs.LaneLaws.{blank_all}
use Rattle.frame_pass.proofs.RecordLaws.{can_run, first_words}
use Rattle.frame_pass.proofs.unchecked.frame_words.Goals as goal

pub put_inputs-requires : goal.put_inputs-requires
put_inputs-requires c =
    let can = c.requires in
    record { blank = blank_all; few = can.few; few_inputs = (sized_of _ can.sound).few_inputs; fit = can.fit }

pub run_gates-requires : goal.run_gates-requires
run_gates-requires c = can_run _ c.requires.sound c.put_inputs.ensures.masked c.requires.few

pub lane_words-requires : goal.lane_words-requires
lane_words-requires c = ((sized_of _ c.requires.sound).few_outputs, c.requires.few)

pub returns : goal.returns
returns c = first_words c.args.network.now c.requires c.put_inputs.ensures c.run_gates.ensures c.lane_words.ensures
