-- No gate is marked at first; what stands marked after the call is what the gate needs.
use Rattle.std.proofs.Common.{sym, subst}
use Rattle.cut_marking.specs.Marking.{Closed}
use Rattle.cut_marking.specs.MarkingLaws.{closed_blank, needed_marked}
use Rattle.cut_marking.proofs.unchecked.needed_gates.Goals as goal

pub mark_gate-requires : goal.mark_gate-requires
mark_gate-requires c = (c.requires.0, c.requires.1, subst (Closed _ _ _ _) (sym c.none.ensures) (closed_blank _ 128))

pub returns : goal.returns
returns c = needed_marked 128 c.requires.1 (rw c.none.ensures at c.mark_gate.ensures)
