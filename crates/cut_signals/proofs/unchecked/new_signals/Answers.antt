-- Each signal has its new one at the end.
use Rattle.std.proofs.Common.{◌≤◌, length, arith}
use Rattle.cut_marks.specs.Marks.{marks_of}
use Rattle.cut_marks.specs.WordLaws.{length_marks}
use Rattle.cut_signals.proofs.SignalLaws.{numbered_none, numbered_more, numbered_all}
use Rattle.cut_signals.proofs.unchecked.new_signals.Goals as goal

pub loop-s-init : goal.loop-s-init
loop-s-init c = numbered_none _ _ _ _

pub loop-s-preserved : goal.loop-s-preserved
loop-s-preserved c =
    let few : c.args.gates ≤ length (marks_of c.args.marks) = omega (arith, length_marks c.args.marks) in
    rw c.from-next.ensures (numbered_more c.loop-s.invariant few (omega arith) _ c.is_kept.ensures)

pub returns : goal.returns
returns c = numbered_all c.loop-s.invariant (omega arith) (omega arith)
