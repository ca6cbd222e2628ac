-- At each turn the record of the cut holds the marked gates so far, with new signals.
use Rattle.std.proofs.Common.{take, get_or}
use Rattle.network.specs.Record.{net_of}
use Rattle.cut_marks.specs.Marks.{marks_of}
use Rattle.cut_copying.proofs.GateLaws.{Copied}
use Rattle.cut_copying.proofs.unchecked.marked_gates.Given as goal

abbrev pub invariant-loop-g : goal.invariant-loop-g
invariant-loop-g l = Copied (net_of l.network) (take l.network.gates (marks_of l.marks)) (get_or l.numbers l.fn.d 0) l.cut l.g
