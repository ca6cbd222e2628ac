-- The gates that are gone into have lower and lower numbers; those behind the feeds from i on are marked.
use Rattle.cut_marks.specs.Marks.{marks_of}
use Rattle.cut_marking.specs.Marking.{FeedsMarked}
use Rattle.cut_marking.proofs.unchecked.+mark_gate.Given as goal

abbrev pub decreases-mark_gate : goal.decreases-mark_gate
decreases-mark_gate l = l.g

abbrev pub invariant-loop-i : goal.invariant-loop-i
invariant-loop-i l = FeedsMarked l.network.fanins l.network.signals l.network.inputs l.g l.i (marks_of l.initial.marked) (marks_of l.marked)
