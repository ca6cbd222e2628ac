-- `witness::unchecked::fewest` meets its contract: the pass keeps a setting with the fewest ones of those that were passed and differ.
-- Assumes nothing.
use mathlib.Core.Path.{◌≡◌, sym, ap, ◌∙◌, subst}
use Prim.Native.Nat.{ℕ, ◌+◌, ◌-◌, ◌*◌, ◌^◌, ◌≤◌, ◌<◌}
use native.Mathlib.Omega.{arith}
use lib.Count.{ones, ones-le}
use lib.Pow.{pow_mono, pow_pos}
use Rattle.fold_theory.specs.Aligned.{clears_on}
use Rattle.gate_sums.specs.SumLaws.{setting_low}
use Rattle.pair_theory.specs.Alignments.{aligned_in, ThresholdsWithin}
use Rattle.pair_clearing.specs.Clearing.{SumTables}
use Rattle.pair_clearing.specs.HalfLaws.{SettingHalves, halved, halves_all, half_few, high_few, reduced_near}
use Rattle.pair_clearing.specs.ClearLaws.{tables_small, tested_low}
use Rattle.pair_blocks.specs.GateBlockLaws.{block_on}
use Rattle.pair_witness.specs.Pass.{FewestUnclear}
use Rattle.pair_witness.proofs.PassLaws.{Passing, half_ones, high_ones, placed, begin, many_lit, agreeing, block_agreeing, better, found, nothing}
use borrow.Author.Rules.{rules}
use Rattle.pair_witness.proofs.unchecked.fewest.Statement.{statement}
use Rattle.pair_witness.proofs.unchecked.fewest.Tie as tie

abbrev invariant-loop2 : tie.invariant-loop-low
invariant-loop2 a sums-u sums-v k l count high_count highs lows mixes span-v span least₀ shown₀ high lit reach low₀ least shown low =
    Passing (clears_on (aligned_in a) k l) (2 ^ a.count) least shown (high * lows + low) × (low ≤ lows)

abbrev decreases-loop2 : tie.decreases-loop-low
decreases-loop2 a sums-u sums-v k l count high_count highs lows mixes span-v span least₀ shown₀ high lit reach low₀ least shown low = lows - low

abbrev invariant-loop : tie.invariant-loop-high
invariant-loop a sums-u sums-v k l count high_count highs lows mixes span-v span least₀ shown₀ high₀ least shown high =
    Passing (clears_on (aligned_in a) k l) (2 ^ a.count) least shown (high * lows) × (high ≤ highs)

abbrev decreases-loop : tie.decreases-loop-high
decreases-loop a sums-u sums-v k l count high_count highs lows mixes span-v span least₀ shown₀ high₀ least shown high = highs - high

settings_requires : tie.Need-settings-highs-requires invariant-loop2 decreases-loop2 invariant-loop decreases-loop
settings_requires c κs = omega (arith, c.high_feeds-high_count.ensures, c.requires.0.searchable.few)

sub_settings : tie.Need-overflow_sub-count invariant-loop2 decreases-loop2 invariant-loop decreases-loop
sub_settings c = omega (arith, c.high_feeds-high_count.ensures)

settings_requires_2 : tie.Need-settings-lows-requires invariant-loop2 decreases-loop2 invariant-loop decreases-loop
settings_requires_2 c κs = omega (arith, c.requires.0.searchable.few)

-- the two halves
abbrev Halves : Type 0
Halves = tie.After-settings-lows invariant-loop2 decreases-loop2 invariant-loop decreases-loop

module _ (c : Halves) where
  abbrev start : tie.Start invariant-loop2 decreases-loop2 invariant-loop decreases-loop
  start = c.before.before.before

  abbrev count : ℕ
  count = start.args.a.count

  few : count ≤ 16
  few = start.requires.0.searchable.few

  abbrev highs : ℕ
  highs = c.settings-highs.result

  abbrev lows : ℕ
  lows = c.settings-lows.result

  highs_is : highs ≡ 2 ^ (count - 8)
  highs_is = c.settings-highs.ensures ∙ ap (λ (n : ℕ). 2 ^ n) c.high_feeds-high_count.ensures

  lows_is : lows ≡ 2 ^ (count - (count - 8))
  lows_is = c.settings-lows.ensures ∙ ap (λ (n : ℕ). 2 ^ (count - n)) c.high_feeds-high_count.ensures

  lows_few : lows ≤ 256
  lows_few = half_few count lows lows_is

  lows_some : 0 < lows
  lows_some = omega (arith, lows_is, pow_pos (count - (count - 8)))

  tables : SumTables start.args.sums_u.now start.args.sums_v.now
  tables = let p = start.requires in tables_small p.0.searchable p.1.0 p.1.1

mixed_sums_requires : tie.Need-mixed_sums-mixes-requires invariant-loop2 decreases-loop2 invariant-loop decreases-loop
mixed_sums_requires c κs = (tables c, ((start c).requires.0.dial, lows_few c))

span_requires : tie.Need-span-span_v-requires invariant-loop2 decreases-loop2 invariant-loop decreases-loop
span_requires c κs = let h = c.before.before in let f = lows_few h in let s = lows_some h in search rules

span_requires_2 : tie.Need-span-span-requires invariant-loop2 decreases-loop2 invariant-loop decreases-loop
span_requires_2 c κs =
    let h = c.before.before.before.before in
    let f = lows_few h in
    let s = lows_some h in
    search rules

-- the sums on the low half, and their ends
abbrev Mixed : Type 0
Mixed = tie.After-span-span invariant-loop2 decreases-loop2 invariant-loop decreases-loop

abbrev both : Mixed → Halves
both m = m.before.before.before.before.before

loop_holds : tie.Need-loop-high-init invariant-loop2 decreases-loop2 invariant-loop decreases-loop
loop_holds c = (placed (0 * lows (both c)) (omega arith) begin, omega arith)

-- a setting of the high half
abbrev High : Type 0
High = tie.In-loop-high invariant-loop2 decreases-loop2 invariant-loop decreases-loop

abbrev halves : High → Halves
halves d = both d.before.before

abbrev high : High → ℕ
high d = d.loop-high.high

high_low : (d : High) → high d < 256
high_low d = let h = halves d in omega (arith, d.loop-high-test.true, high_few (count h) (highs h) (few h) (highs_is h))

add_high : tie.Need-overflow_step-high invariant-loop2 decreases-loop2 invariant-loop decreases-loop
add_high c = record { fits = omega (arith, high_low c.before) }

loop_less : tie.Need-loop-high-smaller-then-least-lit invariant-loop2 decreases-loop2 invariant-loop decreases-loop
loop_less c = omega arith

loop_again : tie.Need-loop-high-preserved-then-least-lit invariant-loop2 decreases-loop2 invariant-loop decreases-loop
loop_again c =
    let d = c.before in
    let h = halves d in
    let least = d.loop-high.least in
    let over = high_ones (count h) (highs h) (lows h) (high d) least (few h) (highs_is h) (lows_is h) d.loop-high-test.true c.if-least-lit.true in
    (placed ((high d + 1) * lows h) (omega arith) (many_lit (lows h) d.loop-high.invariant.0 over), omega arith)

low_thresholds_requires : tie.Need-low_thresholds-reach-requires invariant-loop2 decreases-loop2 invariant-loop decreases-loop
low_thresholds_requires c κs = let d = c.before.before in (tables (halves d), ((start (halves d)).requires.0.searchable.fair.near, high_low d))

-- what is left for the low half
abbrev Left : Type 0
Left = tie.After-low_thresholds-reach invariant-loop2 decreases-loop2 invariant-loop decreases-loop

abbrev by : Left → High
by r = r.before.before.before

reached : (r : Left) → ThresholdsWithin 10000000 r.low_thresholds-reach.result
reached r =
    let h = halves (by r) in
    let s = start h in
    let x = high (by r) in
    subst (ThresholdsWithin 10000000) (sym r.low_thresholds-reach.ensures)
    (reduced_near s.args.a.thresholds _ _ s.requires.0.searchable.fair.near ((tables h).u_small (256 + x)) ((tables h).v_small (256 + x)))

block_clears_requires : tie.Need-block_clears-requires invariant-loop2 decreases-loop2 invariant-loop decreases-loop
block_clears_requires c κs =
    let r = c.before in
    let m = (by r).before.before in
    let h = both m in
    let of_v = m.before.before in
    let sums = of_v.before.before.mixed_sums-mixes.ensures in
    (reached r, ((start h).requires.0.dial, (lows_few h, (sums, (of_v.span-span_v.ensures, m.span-span.ensures)))))

-- a setting of the high half, and each of the low half
halved_by : (d : High) (j : ℕ) → j < lows (halves d) → SettingHalves (count (halves d)) (lows (halves d)) (high d) j
halved_by d j l = let h = halves d in halved (count h) (highs h) (lows h) (high d) j (few h) (highs_is h) (lows_is h) d.loop-high-test.true l

add_high_2 : tie.Need-overflow_step-high-then-block_clears invariant-loop2 decreases-loop2 invariant-loop decreases-loop
add_high_2 c = record { fits = omega (arith, high_low (by c.before.before.before)) }

loop_less_2 : tie.Need-loop-high-smaller-then-block_clears invariant-loop2 decreases-loop2 invariant-loop decreases-loop
loop_less_2 c = omega arith

loop_again_2 : tie.Need-loop-high-preserved-then-block_clears invariant-loop2 decreases-loop2 invariant-loop decreases-loop
loop_again_2 c =
    let r = c.before.before.before in
    let d = by r in
    let h = halves d in
    let p = (start h).requires in
    let clear = sym c.block_clears.ensures ∙ c.if-block_clears.true in
    let all = block_on p.0.searchable p.1.0 p.1.1 (start h).args.k (start h).args.l (lows h) (high d) (halved_by d)
    r.low_thresholds-reach.ensures clear in
    (placed ((high d + 1) * lows h) (omega arith) (block_agreeing (lows h) d.before.loop-high.invariant.0 all), omega arith)

-- a block that is not clear
abbrev left_for : tie.Else-block_clears invariant-loop2 decreases-loop2 invariant-loop decreases-loop → Left
left_for u = u.before.before.before

loop2_holds : tie.Need-loop-low-init invariant-loop2 decreases-loop2 invariant-loop decreases-loop
loop2_holds c =
    let d = by (left_for c) in
    (placed (high d * lows (halves d) + 0) (omega arith) d.before.loop-high.invariant.0, omega arith)

-- a setting of the low half
abbrev Low : Type 0
Low = tie.In-loop-low invariant-loop2 decreases-loop2 invariant-loop decreases-loop

abbrev left : Low → Left
left d = left_for d.before.before

abbrev of : Low → High
of d = by (left d)

abbrev whole : Low → Halves
whole d = halves (of d)

abbrev low : Low → ℕ
low d = d.loop-low.low

-- its number
abbrev number : Low → ℕ
number d = high (of d) * lows (whole d) + low d

low_low : (d : Low) → low d < 256
low_low d = omega (arith, d.loop-low-test.true, lows_few (whole d))

setting : (d : Low) → SettingHalves (count (whole d)) (lows (whole d)) (high (of d)) (low d)
setting d = halved_by (of d) (low d) d.loop-low-test.true

inside : (d : Low) → number d < 65536
inside d = setting_low (count (whole d)) (number d) (few (whole d)) (setting d).inside

-- its ones
lit : (d : Low) → ones (number d) ≡ ones (high (of d)) + ones (low d)
lit d = half_ones (count (whole d)) (lows (whole d)) (high (of d)) (low d) (setting d) (low_low d)

add_ones : tie.Need-overflow_add-ones invariant-loop2 decreases-loop2 invariant-loop decreases-loop
add_ones c = record { fits = omega (arith, ones-le 8 (high (of c)) (high_low (of c)), ones-le 8 (low c) (low_low c)) }

add_low : tie.Need-overflow_step-low invariant-loop2 decreases-loop2 invariant-loop decreases-loop
add_low c = record { fits = omega (arith, low_low c.before) }

loop2_less : tie.Need-loop-low-smaller-then-least-ones invariant-loop2 decreases-loop2 invariant-loop decreases-loop
loop2_less c = omega arith

-- the setting after it
onward : (d : Low) → number d + 1 ≡ high (of d) * lows (whole d) + (low d + 1)
onward d = omega arith

loop2_again : tie.Need-loop-low-preserved-then-least-ones invariant-loop2 decreases-loop2 invariant-loop decreases-loop
loop2_again c =
    let d = c.before in
    let over : (j : ℕ) → j < 1 → d.loop-low.least ≤ ones (number d + j) =
    λ j h. let e : number d + j ≡ number d = omega (arith, h) in rw e (omega (arith, lit d, c.if-least-ones.true)) in
    (placed _ (onward d) (many_lit 1 d.loop-low.invariant.0 over), omega arith)

clears_low_requires : tie.Need-clears_low-requires invariant-loop2 decreases-loop2 invariant-loop decreases-loop
clears_low_requires c κs =
    let d = c.before in
    (tables (whole d), (reached (left d), ((start (whole d)).requires.0.dial, low_low d)))

-- what its test says
agreed : (c : tie.After-clears_low invariant-loop2 decreases-loop2 invariant-loop decreases-loop) → let d = c.before.before in let s = (start (whole d)).args in
    c.clears_low.result ≡ clears_on (aligned_in s.a) s.k s.l (number d)
agreed c =
    let d = c.before.before in
    let h = whole d in
    let p = (start h).requires in
    tested_low p.0.searchable p.1.0 p.1.1 (start h).args.k (start h).args.l (lows h) (high (of d)) (low d) (setting d)
    (rw (left d).low_thresholds-reach.ensures at c.clears_low.ensures)

add_low_2 : tie.Need-overflow_step-low-then-clears_low invariant-loop2 decreases-loop2 invariant-loop decreases-loop
add_low_2 c = record { fits = omega (arith, low_low c.before.before.before) }

loop2_less_2 : tie.Need-loop-low-smaller-then-clears_low invariant-loop2 decreases-loop2 invariant-loop decreases-loop
loop2_less_2 c = omega arith

loop2_again_2 : tie.Need-loop-low-preserved-then-clears_low invariant-loop2 decreases-loop2 invariant-loop decreases-loop
loop2_again_2 c =
    let d = c.before.before.before in
    (placed _ (onward d) (agreeing d.loop-low.invariant.0 (sym (agreed c.before) ∙ c.if-clears_low.true)), omega arith)

mul_shown : tie.Need-overflow_mul-shown invariant-loop2 decreases-loop2 invariant-loop decreases-loop
mul_shown c = record { fits = omega (arith, inside c.before.before.before) }

add_shown : tie.Need-overflow_add-shown invariant-loop2 decreases-loop2 invariant-loop decreases-loop
add_shown c = record { fits = omega (arith, inside c.before.before.before) }

add_low_3 : tie.Need-overflow_step-low-in-loop-low invariant-loop2 decreases-loop2 invariant-loop decreases-loop
add_low_3 c = record { fits = omega (arith, low_low c.before.before.before) }

loop2_less_3 : tie.Need-loop-low-smaller invariant-loop2 decreases-loop2 invariant-loop decreases-loop
loop2_less_3 c = omega arith

loop2_again_3 : tie.Need-loop-low-preserved invariant-loop2 decreases-loop2 invariant-loop decreases-loop
loop2_again_3 c =
    let d = c.before.before.before in
    let kept = better d.loop-low.invariant.0 (setting d).inside (omega (arith, lit d, c.if-least-ones.false)) (sym (agreed c.before) ∙ c.if-clears_low.false) in
    (rw (lit d) at (placed _ (onward d) kept), omega arith)

add_high_3 : tie.Need-overflow_step-high-in-loop-high invariant-loop2 decreases-loop2 invariant-loop decreases-loop
add_high_3 c = record { fits = omega (arith, high_low (by (left_for c.before.before))) }

loop_less_3 : tie.Need-loop-high-smaller invariant-loop2 decreases-loop2 invariant-loop decreases-loop
loop_less_3 c = omega arith

loop_again_3 : tie.Need-loop-high-preserved invariant-loop2 decreases-loop2 invariant-loop decreases-loop
loop_again_3 c =
    let d = by (left_for c.before.before) in
    let i = c.loop-low.invariant in
    let e : c.loop-low.low ≡ lows (halves d) = omega (arith, i.1, c.loop-low-test.false) in
    (placed ((high d + 1) * lows (halves d)) (omega (arith, e)) i.0, omega arith)

-- every setting was passed
all : (c : tie.After-loop-high invariant-loop2 decreases-loop2 invariant-loop decreases-loop) → let h = both c.before.before in 2 ^ count h ≤ c.loop-high.high * lows h
all c =
    let h = both c.before.before in
    let e : c.loop-high.high ≡ highs h = omega (arith, c.loop-high.invariant.1, c.loop-high-test.false) in
    rw e (omega (arith, halves_all (count h) (highs h) (lows h) (highs_is h) (lows_is h)))

returns : tie.Need-returns-then-least-gt16 invariant-loop2 decreases-loop2 invariant-loop decreases-loop
unfolding FewestUnclear
returns c =
    let d = c.before in
    let s = start (both d.before.before) in
    let small : 2 ^ s.args.a.count ≤ 65536 = pow_mono {i = s.args.a.count} {j = 16} s.requires.0.searchable.few in
    nothing d.loop-high.invariant.0 (all d) small c.if-least-gt16.true

returns_2 : tie.Need-returns invariant-loop2 decreases-loop2 invariant-loop decreases-loop
unfolding FewestUnclear
returns_2 c = let d = c.before in found d.loop-high.invariant.0 (all d) c.if-least-gt16.false

pub fewest_spec : {M : Type 1} → statement M
fewest_spec =
    tie.close
    (tie.spec
    invariant-loop2
    decreases-loop2
    invariant-loop
    decreases-loop
    (λ c κs. search rules)
    settings_requires
    sub_settings
    settings_requires_2
    mixed_sums_requires
    span_requires
    (λ c. search rules)
    span_requires_2
    loop_holds
    add_high
    loop_less
    loop_again
    low_thresholds_requires
    block_clears_requires
    add_high_2
    loop_less_2
    loop_again_2
    loop2_holds
    add_ones
    add_low
    loop2_less
    loop2_again
    clears_low_requires
    add_low_2
    loop2_less_2
    loop2_again_2
    mul_shown
    add_shown
    add_low_3
    loop2_less_3
    loop2_again_3
    add_high_3
    loop_less_3
    loop_again_3
    returns
    returns_2)
