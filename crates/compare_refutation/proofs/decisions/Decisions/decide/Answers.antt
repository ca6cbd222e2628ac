-- What rests on the level is open first; then the decision is put in.
use Rattle.std.proofs.Common.{◌∙◌, arith, ◌^◌}
use Rattle.std.proofs.Math.Nat.{one-mul}
use Rattle.std.proofs.Math.Pow.{shl_exact}
use Rattle.compare_theory.proofs.DecisionLaws.{decision}
use Rattle.compare_refutation.proofs.decisions.Decisions.decide.Goals as goal

pub returns : goal.returns
returns c =
    let a = c.args in
    rw c.reopen.ensures.rests_same
    (decision a.level a.signal a.bit _ c.requires.0 c.requires.2 (shl_exact 1 a.level 64 (omega arith) (omega arith) ∙ one-mul (2 ^ a.level))
    c.reopen.ensures.opened)
