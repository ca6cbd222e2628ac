use Rattle.compare_lanes.specs.Lanes.{Masked}
use Rattle.compare_advice.specs.Advice.{Looked}
use Rattle.compare_advice.proofs.unchecked.look_around.Given as goal

abbrev pub invariant-loop-k : goal.invariant-loop-k
invariant-loop-k l = record {
  masked : Masked l.lanes;
  looked : Looked l.initial.notes l.notes;
}
