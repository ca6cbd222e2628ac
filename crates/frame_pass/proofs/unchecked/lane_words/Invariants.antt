-- The places below f hold the words of their lanes.
use Rattle.std.proofs.Common.{map, get_or}
use Rattle.basics.specs.Lists.{tab}
use Rattle.network.specs.Threshold.{word_of}
use Rattle.network.specs.Places.{Pasted}
use Rattle.frame_reading.specs.Evaluation.{bits_in}
use Rattle.frame_lanes.specs.Lanes.{lane}
use Rattle.frame_pass.proofs.unchecked.lane_words.Given as goal

abbrev pub invariant-loop-f : goal.invariant-loop-f
invariant-loop-f l = Pasted 0 0 l.f (λ k. word_of (map (bits_in (lane l.masks k)) (tab l.outputs (λ j. get_or l.drivers j 0)))) l.initial.word-items l.word-items
