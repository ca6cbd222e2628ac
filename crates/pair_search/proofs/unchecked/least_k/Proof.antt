-- Each k that is passed over is ruled out. Assumes nothing.
use mathlib.Core.Path.{◌≡◌}
use Prim.Native.Nat.{ℕ, ◌+◌, ◌-◌, ◌≤◌, ◌<◌}
use native.Mathlib.Omega.{arith}
use borrow.Author.Count.{below_more}
use borrow.Author.Rules.{rules}
use Rattle.pair_search.specs.Search.{RuledOut}
use Rattle.pair_search.proofs.unchecked.least_k.Statement.{statement}
use Rattle.pair_search.proofs.unchecked.least_k.Tie as tie

abbrev invariant-loop : tie.invariant-loop-k
invariant-loop sums-u sums-v thresholds known sum from k₀ k =
    ((from ≤ k) × (k ≤ 33))
    × ((j : ℕ) → j < k → from ≤ j → (l : ℕ) → sum ≤ j + l → l ≤ 32 → RuledOut thresholds sums-u sums-v known j l)

abbrev decreases-loop : tie.decreases-loop-k
decreases-loop sums-u sums-v thresholds known sum from k₀ k = 33 - k

loop_holds : tie.Need-loop-k-init invariant-loop decreases-loop
loop_holds c = ((omega arith, omega arith), λ j h i. absurd (omega (arith, h, i)))

returns : tie.Need-returns-then-serves_k invariant-loop decreases-loop
returns c = let i = c.loop-k.invariant in (i.0, λ k l a b. i.1 k b a l)

loop_again : tie.Need-loop-k-preserved invariant-loop decreases-loop
loop_again c =
    let i = c.loop-k.invariant in
    ((omega arith, omega arith), below_more _ c.loop-k.k i.1 (λ h. c.serves_k.ensures c.if-serves_k.false))

returns_2 : tie.Need-returns invariant-loop decreases-loop
returns_2 c = let i = c.loop-k.invariant in (search rules, λ k l a b. i.1 k (omega (arith, b, c.loop-k-test.false)) a l)

pub least_k_spec : {M : Type 1} → statement M
least_k_spec =
    tie.close
    (tie.spec
    invariant-loop
    decreases-loop
    loop_holds
    (λ c κs. search rules)
    returns
    (λ c. search rules)
    (λ c. search rules)
    loop_again
    returns_2)
