-- A step is answered that is none of those before. Assumes nothing.
use mathlib.Core.Path.{sym, subst}
use Prim.Native.Nat.{◌+◌, ◌-◌, ◌≤◌}
use native.Mathlib.Omega.{arith}
use borrow.Author.Rules.{rules}
use Rattle.pair_theory.specs.Alignments.{ThresholdsWithin}
use Rattle.pair_clearing.specs.HalfLaws.{reduced_near}
use Rattle.pair_bounds.proofs.unchecked.next_step.Statement.{statement}
use Rattle.pair_bounds.proofs.unchecked.next_step.Tie as tie

abbrev invariant-loop : tie.invariant-loop-step
invariant-loop sums-u sums-v thresholds bounds from highs lows mixes-least mixes-most span-u span-v span-least span-most step₀ step = from ≤ step

abbrev decreases-loop : tie.decreases-loop-step
decreases-loop sums-u sums-v thresholds bounds from highs lows mixes-least mixes-most span-u span-v span-least span-most step₀ step = highs - step

-- where the sums' ends are known, and a turn
abbrev Measured : Type 0
Measured = tie.After-span-span_v invariant-loop decreases-loop

abbrev start : Measured → tie.Start invariant-loop decreases-loop
start d = let mixed = d.before.before.before.before in mixed.before.before.before.before.before

abbrev measured : tie.In-loop-step invariant-loop decreases-loop → Measured
measured d = d.before.before.before.before.before.before

span_requires_4 : tie.Need-span-span_most-requires invariant-loop decreases-loop
span_requires_4 c κs = let p = (start c.before.before.before).requires.1.1.1.1 in search rules

high_at_requires : tie.Need-high_at-requires invariant-loop decreases-loop
high_at_requires c κs = (c.loop-step-test.true, (start (measured c)).requires.1.1.1.0)

low_thresholds_requires : tie.Need-low_thresholds-reach-requires invariant-loop decreases-loop
low_thresholds_requires c κs =
    let p = (start (measured c.before)).requires in
    (p.0, (p.1.0, omega (arith, c.high_at.ensures, p.1.1.1.0)))

-- what is left for the low half
near : (c : tie.After-low_thresholds-reach invariant-loop decreases-loop) → ThresholdsWithin 10000000 c.low_thresholds-reach.result
near c =
    let s = start (measured c.before.before) in
    let at = 256 + c.high_at.result in
    subst (ThresholdsWithin 10000000) (sym c.low_thresholds-reach.ensures)
    (reduced_near s.args.thresholds _ _ s.requires.1.0 (s.requires.0.u_small at) (s.requires.0.v_small at))

threshold_by_requires : tie.Need-threshold_by-least-requires invariant-loop decreases-loop
threshold_by_requires c κs = (near c.before, (start (measured c.before.before.before)).requires.1.1.0.least_on)

threshold_by_requires_2 : tie.Need-threshold_by-most-requires invariant-loop decreases-loop
threshold_by_requires_2 c κs = let d = c.before.before.before in (near d, (start (measured d.before.before)).requires.1.1.0.most_on)

add_step : tie.Need-overflow_step-step invariant-loop decreases-loop
add_step c =
    let d = c.before.before.before.before.before.before.before.before in
    record { fits = omega (arith, d.loop-step-test.true, (start (measured d)).requires.1.1.1.0) }

-- the turn of a block that is tried
abbrev tried : tie.After-mixes_most-in-loop-step-1 invariant-loop decreases-loop → tie.In-loop-step invariant-loop decreases-loop
tried c = c.before.before.before.before.before.before.before.before.before.before

differs_at_ends_requires : tie.Need-differs_at_ends-requires invariant-loop decreases-loop
differs_at_ends_requires c κs = (start (measured (tried c))).requires.1.1.1.1.1

add_step_2 : tie.Need-overflow_step-step-in-loop-step invariant-loop decreases-loop
add_step_2 c =
    let d = tried c.before.before in
    record { fits = omega (arith, d.loop-step-test.true, (start (measured d)).requires.1.1.1.0) }

pub next_step_spec : {M : Type 1} → statement M
next_step_spec =
    tie.close
    (tie.spec
    invariant-loop
    decreases-loop
    (λ c. search rules)
    (λ c κs. search rules)
    (λ c κs. search rules)
    (λ c κs. search rules)
    (λ c κs. search rules)
    (λ c. search rules)
    (λ c κs. search rules)
    (λ c. search rules)
    span_requires_4
    (λ c. search rules)
    high_at_requires
    low_thresholds_requires
    threshold_by_requires
    threshold_by_requires_2
    (λ c κs. search rules)
    add_step
    (λ c. search rules)
    (λ c. search rules)
    differs_at_ends_requires
    (λ c. search rules)
    add_step_2
    (λ c. search rules)
    (λ c. search rules)
    (λ c. search rules))
