-- The settings that give bounds are settings of the blocks. Assumes nothing.
use mathlib.Core.Path.{◌≡◌, sym, ap, ◌∙◌, subst}
use Prim.Native.Nat.{ℕ, ◌+◌, ◌*◌, ◌-◌, ◌^◌, ◌≤◌, ◌<◌}
use native.Mathlib.Omega.{arith}
use lib.Pow.{pow_pos}
use borrow.Author.Rules.{rules}
use Rattle.pair_theory.specs.Alignments.{ThresholdsWithin, DialLimits}
use Rattle.pair_clearing.specs.HalfLaws.{halved, half_few, high_few, reduced_near}
use Rattle.pair_bounds.specs.Ranges.{BoundsWithin, BoundsOnDial}
use Rattle.pair_bounds.proofs.unchecked.tightest.Statement.{statement}
use Rattle.pair_bounds.proofs.unchecked.tightest.Tie as tie

abbrev invariant-loop : tie.invariant-loop-step
invariant-loop sums-u sums-v thresholds count high_count highs lows bounds₀ step₀ bounds step = BoundsWithin (2 ^ count) bounds × BoundsOnDial bounds

abbrev decreases-loop : tie.decreases-loop-step
decreases-loop sums-u sums-v thresholds count high_count highs lows bounds₀ step₀ bounds step = highs - step

settings_requires : tie.Need-settings-highs-requires invariant-loop decreases-loop
settings_requires c κs = omega (arith, c.high_feeds-high_count.ensures, c.requires.1.1)

sub_settings : tie.Need-overflow_sub-count invariant-loop decreases-loop
sub_settings c = omega (arith, c.high_feeds-high_count.ensures)

settings_requires_2 : tie.Need-settings-lows-requires invariant-loop decreases-loop
settings_requires_2 c κs = omega (arith, c.requires.1.1)

-- the two halves
module _ (c : tie.After-settings-lows invariant-loop decreases-loop) where
  abbrev start : tie.Start invariant-loop decreases-loop
  start = c.before.before.before

  abbrev count : ℕ
  count = start.args.count

  few : count ≤ 16
  few = start.requires.1.1

  abbrev highs : ℕ
  highs = c.settings-highs.result

  abbrev lows : ℕ
  lows = c.settings-lows.result

  highs_is : highs ≡ 2 ^ (count - 8)
  highs_is = c.settings-highs.ensures ∙ ap (λ (n : ℕ). 2 ^ n) c.high_feeds-high_count.ensures

  lows_is : lows ≡ 2 ^ (count - (count - 8))
  lows_is = c.settings-lows.ensures ∙ ap (λ (n : ℕ). 2 ^ (count - n)) c.high_feeds-high_count.ensures

  highs_few : highs ≤ 256
  highs_few = high_few count highs few highs_is

  lows_few : lows ≤ 256
  lows_few = half_few count lows lows_is

  lows_some : 0 < lows
  lows_some = omega (arith, lows_is, pow_pos (count - (count - 8)))

loop_holds : tie.Need-loop-step-init invariant-loop decreases-loop
loop_holds c =
    let least_on : DialLimits 1 32 = record { k_high = omega arith; l_high = omega arith } in
    let most_on : DialLimits 32 1 = record { k_high = omega arith; l_high = omega arith } in
    (record { above_in = pow_pos (count c); below_in = pow_pos (count c) }, record { least_on = least_on; most_on = most_on })

-- the two halves of a turn
abbrev halves : tie.In-loop-step invariant-loop decreases-loop → tie.After-settings-lows invariant-loop decreases-loop
halves d = d.before.before

high_at_requires : tie.Need-high_at-high-requires invariant-loop decreases-loop
high_at_requires c κs = (c.loop-step-test.true, highs_few (halves c))

low_high : (c : tie.After-high_at-high invariant-loop decreases-loop) → c.high_at-high.result < 256
low_high c = omega (arith, c.high_at-high.ensures, highs_few (halves c.before))

low_thresholds_requires : tie.Need-low_thresholds-reach-requires invariant-loop decreases-loop
low_thresholds_requires c κs = let p = (start (halves c.before)).requires in (p.0, (p.1.0, low_high c))

-- what is left for the low half
near : (c : tie.After-low_thresholds-reach invariant-loop decreases-loop) → ThresholdsWithin 10000000 c.low_thresholds-reach.result
near c =
    let s = start (halves c.before.before) in
    let at = 256 + c.high_at-high.result in
    subst (ThresholdsWithin 10000000) (sym c.low_thresholds-reach.ensures)
    (reduced_near s.args.thresholds _ _ s.requires.1.0 (s.requires.0.u_small at) (s.requires.0.v_small at))

bounded_by_block_requires : tie.Need-bounded_by_block-bounds-requires invariant-loop decreases-loop
bounded_by_block_requires c κs =
    let turn = c.before.before in
    let p = (start (halves turn)).requires in
    (p.0, (near c, (turn.loop-step.invariant.1, (low_high c.before, lows_few (halves turn)))))

-- each setting of a block
inside : (d : tie.After-high_at-high invariant-loop decreases-loop) → let h = halves d.before in (j : ℕ) → j < lows h → 256 * d.high_at-high.result + j < 2 ^ count h
inside d j l =
    let h = halves d.before in
    let s = halved (count h) (highs h) (lows h) d.high_at-high.result j (few h) (highs_is h) (lows_is h) d.high_at-high.ensures l in
    omega (arith, s.inside, s.same)

-- the bounds stay within the settings
within : (c : tie.After-bounded_by_block-bounds invariant-loop decreases-loop) → BoundsWithin (2 ^ count (halves c.before.before.before)) c.bounded_by_block-bounds.result
within c =
    let d = c.before.before in
    c.bounded_by_block-bounds.ensures.1 (2 ^ count (halves d.before)) d.loop-step.invariant.0 (inside d)

returns : tie.Need-returns-then-closed invariant-loop decreases-loop
returns c = c.settings_of.ensures _ (within c.before.before.before)

add_next_step : tie.Need-overflow_add-step invariant-loop decreases-loop
add_next_step c =
    let turn = c.before.before.before.before.before in
    record { fits = omega (arith, turn.loop-step-test.true, highs_few (halves turn)) }

next_step_requires : tie.Need-next_step-step-requires invariant-loop decreases-loop
next_step_requires c κs =
    let h = halves c.before.before.before.before.before in
    let p = (start h).requires in
    (p.0, (p.1.0, (c.bounded_by_block-bounds.ensures.0, (highs_few h, (lows_some h, lows_few h)))))

loop_less : tie.Need-loop-step-smaller invariant-loop decreases-loop
loop_less c =
    omega (arith, c.next_step-step.ensures, c.loop-step-test.true)

loop_again : tie.Need-loop-step-preserved invariant-loop decreases-loop
loop_again c = let e = c.before.before.before in (within e, e.bounded_by_block-bounds.ensures.0)

returns_2 : tie.Need-returns invariant-loop decreases-loop
returns_2 c = c.settings_of-2.ensures _ c.loop-step.invariant.0

pub tightest_spec : {M : Type 1} → statement M
tightest_spec =
    tie.close
    (tie.spec
    invariant-loop
    decreases-loop
    (λ c κs. search rules)
    settings_requires
    sub_settings
    settings_requires_2
    loop_holds
    high_at_requires
    low_thresholds_requires
    bounded_by_block_requires
    (λ c κs. search rules)
    (λ c κs. search rules)
    returns
    add_next_step
    next_step_requires
    loop_less
    loop_again
    (λ c κs. search rules)
    returns_2)
