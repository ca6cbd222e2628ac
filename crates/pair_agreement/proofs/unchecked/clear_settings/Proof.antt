-- The settings of the blocks passed are clear. Assumes nothing.
use mathlib.Core.Path.{◌≡◌, sym, ap, ◌∙◌, subst}
use Prim.Native.Nat.{ℕ, ◌+◌, ◌-◌, ◌*◌, ◌^◌, ◌≤◌, ◌<◌}
use native.Mathlib.Omega.{arith}
use lib.Dec.{T}
use lib.Pow.{pow_pos}
use borrow.Author.Rules.{rules}
use borrow.Author.Tests.{not-true, not-false}
use Rattle.gate_sums.specs.SumLaws.{setting_low}
use Rattle.fold_theory.specs.Aligned.{clears_on}
use Rattle.pair_theory.specs.Alignments.{aligned_in, ThresholdsWithin}
use Rattle.pair_clearing.specs.Clearing.{SumTables}
use Rattle.pair_clearing.specs.HalfLaws.{SettingHalves, halved, halves_all, half_few, high_few, reduced_near}
use Rattle.pair_clearing.specs.ClearLaws.{tables_small}
use Rattle.pair_blocks.specs.BlockLaws.{block_more}
use Rattle.pair_blocks.specs.GateBlockLaws.{block_on, block_short}
use Rattle.pair_agreement.proofs.unchecked.clear_settings.Statement.{statement}
use Rattle.pair_agreement.proofs.unchecked.clear_settings.Tie as tie

abbrev invariant-loop : tie.invariant-loop-high
invariant-loop a sums-u sums-v k l count high_count highs lows mixes span-v span high₀ high =
    (high ≤ highs) × ((j : ℕ) → j < high * lows → T (clears_on (aligned_in a) k l j))

abbrev decreases-loop : tie.decreases-loop-high
decreases-loop a sums-u sums-v k l count high_count highs lows mixes span-v span high₀ high = highs - high

settings_requires : tie.Need-settings-highs-requires invariant-loop decreases-loop
settings_requires c κs = omega (arith, c.high_feeds-high_count.ensures, c.requires.0.few)

sub_settings : tie.Need-overflow_sub-count invariant-loop decreases-loop
sub_settings c = omega (arith, c.high_feeds-high_count.ensures)

settings_requires_2 : tie.Need-settings-lows-requires invariant-loop decreases-loop
settings_requires_2 c κs = omega (arith, c.requires.0.few)

-- the two halves
module _ (c : tie.After-settings-lows invariant-loop decreases-loop) where
  abbrev start : tie.Start invariant-loop decreases-loop
  start = c.before.before.before

  abbrev count : ℕ
  count = start.args.a.count

  few : count ≤ 16
  few = start.requires.0.few

  abbrev highs : ℕ
  highs = c.settings-highs.result

  abbrev lows : ℕ
  lows = c.settings-lows.result

  highs_is : highs ≡ 2 ^ (count - 8)
  highs_is = c.settings-highs.ensures ∙ ap (λ (n : ℕ). 2 ^ n) c.high_feeds-high_count.ensures

  lows_is : lows ≡ 2 ^ (count - (count - 8))
  lows_is = c.settings-lows.ensures ∙ ap (λ (n : ℕ). 2 ^ (count - n)) c.high_feeds-high_count.ensures

  lows_few : lows ≤ 256
  lows_few = half_few count lows lows_is

  lows_some : 0 < lows
  lows_some = omega (arith, lows_is, pow_pos (count - (count - 8)))

  tables : SumTables start.args.sums_u.now start.args.sums_v.now
  tables = let p = start.requires in tables_small p.0 p.1.1.0 p.1.1.1

mixed_sums_requires : tie.Need-mixed_sums-mixes-requires invariant-loop decreases-loop
mixed_sums_requires c κs = (tables c, ((start c).requires.1.0, lows_few c))

span_requires : tie.Need-span-span_v-requires invariant-loop decreases-loop
span_requires c κs = let h = c.before.before in let f = lows_few h in let s = lows_some h in search rules

span_requires_2 : tie.Need-span-span-requires invariant-loop decreases-loop
span_requires_2 c κs =
    let h = c.before.before.before.before in
    let f = lows_few h in
    let s = lows_some h in
    search rules

-- the two halves, once the sums and their ends are known
abbrev halves : tie.After-span-span invariant-loop decreases-loop → tie.After-settings-lows invariant-loop decreases-loop
halves m = m.before.before.before.before.before

loop_holds : tie.Need-loop-high-init invariant-loop decreases-loop
loop_holds c = (omega arith, λ j h. absurd (omega (arith, h)))

-- a setting of the high half
module _ (d : tie.In-loop-high invariant-loop decreases-loop) where
  abbrev both : tie.After-settings-lows invariant-loop decreases-loop
  both = halves d.before.before

  abbrev high : ℕ
  high = d.loop-high.high

  low_high : high < 256
  low_high = omega (arith, d.loop-high-test.true, high_few (count both) (highs both) (few both) (highs_is both))

  -- with each of the low half
  setting : (j : ℕ) → j < lows both → SettingHalves (count both) (lows both) high j
  setting j h = halved (count both) (highs both) (lows both) high j (few both) (highs_is both) (lows_is both) d.loop-high-test.true h

low_thresholds_requires : tie.Need-low_thresholds-reach-requires invariant-loop decreases-loop
low_thresholds_requires c κs = (tables (both c.before), ((start (both c.before)).requires.0.fair.near, low_high c.before))

-- what is left for the low half
reached : (c : tie.After-low_thresholds-reach invariant-loop decreases-loop) → ThresholdsWithin 10000000 c.low_thresholds-reach.result
reached c =
    let d = c.before.before in
    let s = start (both d) in
    subst (ThresholdsWithin 10000000) (sym c.low_thresholds-reach.ensures)
    (reduced_near s.args.a.thresholds _ _ s.requires.0.fair.near ((tables (both d)).u_small (256 + high d)) ((tables (both d)).v_small (256 + high d)))

block_clears_requires : tie.Need-block_clears-requires invariant-loop decreases-loop
block_clears_requires c κs =
    let r = c.before in
    let d = c.before.before.before in
    let sums = c.mixed_sums-mixes.ensures in
    (reached r, ((start (both d)).requires.1.0, (lows_few (both d), (sums, (c.span-span_v.ensures, c.span-span.ensures)))))

-- a block that is not clear
module _ (c : tie.Then-not-block_clears invariant-loop decreases-loop) where
  abbrev turn : tie.In-loop-high invariant-loop decreases-loop
  turn = c.before.before.before.before.before

  -- its first setting is one of all
  block_inside : high turn * lows (both turn) < 2 ^ count (both turn)
  block_inside = omega (arith, (setting turn 0 (lows_some (both turn))).inside)

mul_result : tie.Need-overflow_mul-result invariant-loop decreases-loop
mul_result c =
    let h = both (turn c) in
    record { fits = omega (arith, setting_low (count h) (high (turn c) * lows h) (few h) (block_inside c)) }

returns : tie.Need-returns-then-not-block_clears invariant-loop decreases-loop
returns c =
    let d = turn c in
    let s = start (both d) in
    let p = s.requires in
    let unclear = sym c.block_clears.ensures ∙ not-true c.block_clears.result c.if-not-block_clears.true-raw in
    record {
      within = omega (arith, block_inside c);
      clear = d.before.loop-high.invariant.1;
      short = λ _. block_short p.0 p.1.1.0 p.1.1.1 s.args.k s.args.l (lows (both d)) (high d) (setting d)
          c.low_thresholds-reach.ensures unclear;
    }

add_high : tie.Need-overflow_step-high invariant-loop decreases-loop
add_high c = let d = c.before.before.before.before.before in record { fits = omega (arith, low_high d) }

loop_less : tie.Need-loop-high-smaller invariant-loop decreases-loop
loop_less c = omega arith

loop_again : tie.Need-loop-high-preserved invariant-loop decreases-loop
loop_again c =
    let d = c.before.before.before.before.before in
    let s = start (both d) in
    let p = s.requires in
    let clear = sym c.block_clears.ensures ∙ not-false c.block_clears.result c.if-not-block_clears.false-raw in
    let all = block_on p.0 p.1.1.0 p.1.1.1 s.args.k s.args.l (lows (both d)) (high d) (setting d)
    c.low_thresholds-reach.ensures clear in
    let agrees = clears_on (aligned_in s.args.a) s.args.k s.args.l in
    let past = block_more agrees (high d * lows (both d)) (lows (both d)) d.loop-high.invariant.1 all in
    (omega arith, λ j h. past j (omega (arith, h)))

settings_requires_3 : tie.Need-settings-requires invariant-loop decreases-loop
settings_requires_3 c κs = few (halves c.before.before)

returns_2 : tie.Need-returns invariant-loop decreases-loop
returns_2 c =
    let h = halves c.before.before.before in
    let m : c.loop-high.high ≡ highs h = omega (arith, c.loop-high.invariant.0, c.loop-high-test.false) in
    let all : c.loop-high.high * lows h ≡ 2 ^ count h = ap (λ (n : ℕ). n * lows h) m ∙ halves_all (count h) (highs h) (lows h) (highs_is h) (lows_is h) in
    rw c.settings.ensures (record {
      within = omega arith;
      clear = λ j i. c.loop-high.invariant.1 j (omega (arith, i, all));
      short = λ i. absurd (omega (arith, i));
    })

pub clear_settings_spec : {M : Type 1} → statement M
clear_settings_spec =
    tie.close
    (tie.spec
    invariant-loop
    decreases-loop
    (λ c κs. search rules)
    settings_requires
    sub_settings
    settings_requires_2
    mixed_sums_requires
    span_requires
    (λ c. search rules)
    span_requires_2
    loop_holds
    low_thresholds_requires
    block_clears_requires
    mul_result
    returns
    add_high
    loop_less
    loop_again
    settings_requires_3
    returns_2)
