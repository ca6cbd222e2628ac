-- The word so far is the word of the outputs from j on.
use Rattle.std.proofs.Common.{get_or}
use Rattle.frame_reading.specs.Evaluation.{bits_in}
use Rattle.frame_reading.proofs.OutputLaws.{WordFrom}
use Rattle.frame_reading.proofs.unchecked.output_word.Given as goal

abbrev pub invariant-loop-j : goal.invariant-loop-j
invariant-loop-j l = WordFrom (bits_in l.values) (λ k. get_or l.drivers k 0) l.outputs l.j l.word
