-- At each turn the first i feeds stand at the front, and after them what stood there at first.
use Rattle.std.proofs.Common.{◌≡◌, ◌++◌, ◌*◌, drop}
use Rattle.pmn_writing.specs.Parts.{first_feeds}
use Rattle.pmn_writing.proofs.unchecked.put_feeds.Given as goal

abbrev pub invariant-loop-i : goal.invariant-loop-i
invariant-loop-i l = l.out ≡ first_feeds l.gate.signals l.gate.weights l.i ++ drop (5 * l.i) l.fn.out
