-- The claims of the question hold. Assumes nothing.
use Rattle.basics.specs.TestLaws.{T_is}
use Rattle.network.specs.Record.{net_of, sound_record}
use Rattle.network.specs.RecordLaws.{sound_net}
use Rattle.network.specs.declared.Network.{Network}
use Rattle.question_theory.proofs.SolutionLaws.{question_decides}
use Rattle.question_theory.proofs.SizeLaws.{question_named, line_short}
use Rattle.question_theory.proofs.MeaningLaws.{question_text_says, question_header_says, decides_written}
use Rattle.question_theory.proofs.AlikeLaws.{alike_inputs, alike_outputs}
use Rattle.guarantees.specs.Questions.{Questions}

pub questions : (a b : Network) → Questions a b
questions a b ea eb e =
    let N = net_of a in
    let M = net_of b in
    let s = sound_net a (T_is (sound_record a) ea) in
    let t = sound_net b (T_is (sound_record b) eb) in
    let inputs = alike_inputs N M e in
    let outputs = alike_outputs N M e in
    let decides = question_decides N M s t inputs outputs in
    record {
      decides = decides;
      decides_written = decides_written N M s t inputs decides;
      header = question_header_says N M s t inputs outputs;
      says = question_text_says N M s t inputs;
      named = question_named N M s t inputs;
      short = line_short N M s t inputs outputs;
    }
