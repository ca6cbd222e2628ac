use Rattle.compare_theory.specs.Joint.{fanin}
use Rattle.compare_theory.specs.Spans.{least_at, most_at}
use Rattle.compare_theory.specs.Reasons.{HoldsUp, HoldsDown}
use Rattle.compare_theory.proofs.SpanLaws.{Added}
use Rattle.compare_refutation.proofs.rules.ends_of.Given as goal

-- the ends are the sums of the shares so far; each mask has what these rest on
abbrev pub invariant-loop-i : goal.invariant-loop-i
invariant-loop-i l = record {
  least_so_far : Added (least_at l.held.bits l.wires l.weights) (fanin l.wires) l.i l.lowest;
  most_so_far : Added (most_at l.held.bits l.wires l.weights) (fanin l.wires) l.i l.highest;
  holds_up : HoldsUp l.held.bits l.held.rests l.wires l.weights l.i l.up;
  holds_down : HoldsDown l.held.bits l.held.rests l.wires l.weights l.i l.down;
}
