-- The signals below s have their new ones, and the next one is counted on.
use Rattle.cut_marks.specs.Marks.{marks_of}
use Rattle.cut_signals.proofs.SignalLaws.{Numbered}
use Rattle.cut_signals.proofs.unchecked.new_signals.Given as goal

abbrev pub invariant-loop-s : goal.invariant-loop-s
invariant-loop-s l = Numbered (marks_of l.marks) l.inputs l.gates l.initial.result l.result l.next l.s
