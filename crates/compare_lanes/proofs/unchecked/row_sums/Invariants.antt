use Rattle.compare_theory.specs.Joint.{fanin}
use Rattle.compare_lanes.proofs.RowLaws.{LanesAdded}
use Rattle.compare_lanes.proofs.unchecked.row_sums.Given as goal

-- each lane has the sum of so many feeds
abbrev pub invariant-loop-i : goal.invariant-loop-i
invariant-loop-i l = LanesAdded l.lanes l.wires l.weights (fanin l.wires) l.i l.sums
