-- Decisions, jumps back and what the rules force keep the invariant. A contradiction that rests on no decision refutes.
use Rattle.std.proofs.Common.{refl}
use Rattle.compare_theory.proofs.DecisionLaws.{decided_none, decided_after, decided_clash, decided_refuted}
use Rattle.compare_refutation.proofs.unchecked.refute.Goals as goal

pub loop-left-init : goal.loop-left-init
loop-left-init c = decided_none c.args.bits

pub returns-then-why-eq0-clause-shown : goal.returns-then-why-eq0-clause-shown
returns-then-why-eq0-clause-shown c = decided_refuted c.loop-left.invariant c.in-Clash.ensures refl c.if-why-eq0.true

pub loop-left-preserved-in-Clash : goal.loop-left-preserved-in-Clash
loop-left-preserved-in-Clash c =
    let inv = c.loop-left.invariant in
    let clash = c.in-Clash.ensures in
    c.jump_back.ensures.decided _ _ (decided_after inv clash) (decided_clash inv clash refl)

pub loop-left-preserved : goal.loop-left-preserved
loop-left-preserved c = c.decide.ensures.decided _ _ (decided_after c.loop-left.invariant c.propagate.ensures)
