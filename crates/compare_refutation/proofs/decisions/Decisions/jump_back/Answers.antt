-- What rests on the level is open first; then the decision's signal gets the other bit.
use Rattle.std.proofs.Common.{rules, ◌≡◌, ◌∙◌, ap, arith, ◌%◌, ◌^◌, ◌*◌, ℕ, cond, eqb, get_or}
use Rattle.std.proofs.Math.Nat.{one-mul}
use Rattle.std.proofs.Math.Pow.{shl_exact}
use Rattle.compare_theory.proofs.DecisionLaws.{jumped_back}
use Rattle.compare_refutation.proofs.decisions.Decisions.jump_back.Goals as goal
use Rattle.compare_refutation.proofs.decisions.Decisions.jump_back.Goals.{then-self-level-eq0, else-self-level-eq0}

pub returns : goal.returns
returns c =
    let a = c.args in
    let power : 1 * 2 ^ a.level % 18446744073709551616 ≡ 2 ^ a.level = shl_exact 1 a.level 64 (omega arith) (omega arith) ∙ one-mul (2 ^ a.level) in
    let bit : c.if-self-level-eq0.bit ≡ cond (eqb (get_or a.self.now.tried a.level 0) 0) 1 0 = search rules in
    rw (c.reopen.ensures.rests_same, c.from-signal.ensures)
    (jumped_back a.level c.if-self-level-eq0.bit _ a.why bit c.requires.1 (ap (λ (n : ℕ). a.why % n) power) c.reopen.ensures.opened)
