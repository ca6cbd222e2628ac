-- What each turn leaves is in MarkingLaws.
use Rattle.std.proofs.Common.{◌≡◌, ◌<◌, ◌-◌, length, sym, subst, arith}
use Rattle.cut_marks.specs.Marks.{marks_of}
use Rattle.cut_marks.specs.WordLaws.{length_marks}
use Rattle.cut_marking.specs.Marking.{Closed}
use Rattle.cut_marking.specs.MarkingLaws.{wired_less, closed_less, closed_entered, no_feeds, input_passed, gate_entered, gate_marked}
use Rattle.cut_marking.proofs.unchecked.+mark_gate.Goals as goal

pub loop-i-init : goal.loop-i-init
loop-i-init t c =
    let in_marks : c.args.g < length (marks_of c.args.marks) = omega (arith, c.requires.0, length_marks c.args.marks) in
    no_feeds _ _ _ (omega arith) (subst (Closed _ _ _ _) (sym c.with-marked.ensures) (closed_entered _ _ in_marks c.requires.2))

pub mark_gate-marked-requires : goal.mark_gate-marked-requires
mark_gate-marked-requires t c =
    -- the gate behind a feed lies below its gate
    let b = c.requires.1.feeds_below c.args.g (c.loop-i.i - 1) (omega arith) (omega arith) in
    (omega arith, (omega arith, wired_less _ (omega arith) c.requires.1, closed_less _ (omega arith) c.loop-i.invariant.closed))

pub loop-i-preserved-then-network-signal : goal.loop-i-preserved-then-network-signal
loop-i-preserved-then-network-signal t c =
    let b = c.requires.1.feeds_below c.args.g (c.loop-i.i - 1) (omega arith) (omega arith) in
    gate_entered (omega arith) (omega arith) (omega arith) (omega arith) c.loop-i.invariant c.mark_gate-marked.ensures

pub loop-i-preserved : goal.loop-i-preserved
loop-i-preserved t c = input_passed (omega arith) (omega arith) c.loop-i.invariant

pub returns : goal.returns
returns t c =
    let in_marks : c.args.g < length (marks_of c.args.marks) = omega (arith, c.requires.0, length_marks c.args.marks) in
    let none : c.loop-i.i ≡ 0 = omega arith in
    gate_marked _ _ _ in_marks (rw (none, c.with-marked.ensures) at c.loop-i.invariant)
