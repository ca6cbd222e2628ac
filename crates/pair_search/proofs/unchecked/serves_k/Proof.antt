-- A setting that rules out k with an l rules it out with the greater ones. Assumes nothing.
use mathlib.Core.Path.{sym}
use mathlib.Core.Bool.{◌||◌, true≢false}
use mathlib.Core.Logic.{inl, inr}
use Prim.Native.Nat.{◌-◌, ◌≤◌}
use native.Mathlib.Omega.{arith}
use borrow.Author.Rules.{rules}
use borrow.Author.Tests.{not-false}
use Rattle.basics.specs.TestLaws.{T_is, or_case}
use Rattle.gate_sums.specs.Tables.{sum_from}
use Rattle.pair_search.proofs.RangeLaws.{greater_l}
use Rattle.pair_search.proofs.unchecked.serves_k.Statement.{statement}
use Rattle.pair_search.proofs.unchecked.serves_k.Tie as tie

returns : tie.Need-returns-then-sum-k
returns c e l h m = absurd (true≢false e)

returns_2 : tie.Need-returns-then-l-gt32
returns_2 c e l h m = absurd (omega (arith, c.if-l-gt32.true, h, m))

returns_3 : tie.Need-returns
returns_3 c e l h m =
    let a = c.args in
    let first = c.rules_out_k-last in
    let second = c.rules_out_k-earlier in
    let more : a.sum - a.k ≤ l = omega (arith, h) in
    or_case first.result second.result (T_is (first.result || second.result) (not-false (first.result || second.result) e))
    (λ t. inl (greater_l a.thresholds _ _ a.k (a.sum - a.k) l first.ensures t more))
    (λ t. inr (greater_l a.thresholds _ _ a.k (a.sum - a.k) l second.ensures t more))

pub serves_k_spec : {M : Type 1} → statement M
serves_k_spec =
    tie.close (tie.spec returns (λ c. search rules) returns_2 (λ c κs. search rules) (λ c κs. search rules) returns_3)
