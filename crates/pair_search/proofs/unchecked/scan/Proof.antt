-- What is left of the candidates has the same first pair that qualifies as all of them. Assumes nothing.
use mathlib.Core.Path.{◌≡◌, refl, sym, subst}
use Prim.Native.Nat.{ℕ, ◌-◌, ◌^◌, ◌≤◌, ◌<◌}
use native.Mathlib.Omega.{arith}
use Rattle.gate_sums.specs.SumLaws.{setting_low}
use Rattle.fold_theory.specs.Aligned.{clears_on, qualifies_on}
use Rattle.pair_theory.specs.Alignments.{aligned_in, ThresholdsWithin, DialLimits}
use Rattle.pair_clearing.specs.Clearing.{SumTables}
use Rattle.pair_clearing.specs.HalfLaws.{near_wider}
use Rattle.pair_clearing.specs.ClearLaws.{tables_small, tested}
use Rattle.pair_bounds.specs.declared.Remembered.{Remembered}
use Rattle.pair_bounds.specs.Ranges.{RememberedWithin}
use Rattle.pair_search.proofs.SearchState.{AtSum, AtCandidate, AtSetting, begin, raised, turn, past_dial, past_sum, past_bound, none, off}
use Rattle.pair_search.proofs.SearchState.{unscaled, differs, setting_begin, setting_more, setting_differs, found, ruled_out, rest_differs}
use Rattle.pair_search.proofs.unchecked.scan.Statement.{statement}
use Rattle.pair_search.proofs.unchecked.scan.Tie as tie

abbrev invariant-loop : tie.invariant-loop-setting
invariant-loop a sums-u sums-v thresholds count all known₀ least sum k₀ l clear setting₀ known k setting =
    AtSetting (clears_on (aligned_in a) k₀ l) (2 ^ a.count) known₀ k₀ known k setting

abbrev decreases-loop : tie.decreases-loop-setting
decreases-loop a sums-u sums-v thresholds count all known₀ least sum k₀ l clear setting₀ known k setting = all - setting

abbrev invariant-candidate : tie.invariant-candidate
invariant-candidate a sums-u sums-v thresholds count all known₀ least sum₀ k₀ known sum k =
    (sum ≡ sum₀) × AtCandidate (qualifies_on (aligned_in a)) (2 ^ a.count) known least sum k

abbrev decreases-candidate : tie.decreases-candidate
decreases-candidate a sums-u sums-v thresholds count all known₀ least sum₀ k₀ known sum k = 33 - k

abbrev invariant-sum : tie.invariant-sum
invariant-sum a sums-u sums-v thresholds count all known₀ least₀ sum₀ known least sum = AtSum (qualifies_on (aligned_in a)) (2 ^ a.count) known least sum

abbrev decreases-sum : tie.decreases-sum
decreases-sum a sums-u sums-v thresholds count all known₀ least₀ sum₀ known least sum = 65 - sum

settings_requires : tie.Need-settings-all-requires invariant-loop decreases-loop invariant-candidate decreases-candidate invariant-sum decreases-sum
settings_requires c κs = c.requires.0.few

-- the start, once the number of settings is known
module _ (c : tie.After-settings-all invariant-loop decreases-loop invariant-candidate decreases-candidate invariant-sum decreases-sum) where
  abbrev start : tie.Start invariant-loop decreases-loop invariant-candidate decreases-candidate invariant-sum decreases-sum
  start = c.before.before

  abbrev count : ℕ
  count = start.args.a.count

  few : count ≤ 16
  few = start.requires.0.few

  tables : SumTables start.args.sums_u.now start.args.sums_v.now
  tables = let p = start.requires in tables_small p.0 p.1.0 p.1.1

  near : ThresholdsWithin 10000000 start.args.a.thresholds
  near = near_wider start.args.a.thresholds start.requires.0.fair.near

tightest_requires : tie.Need-tightest-known-requires invariant-loop decreases-loop invariant-candidate decreases-candidate invariant-sum decreases-sum
tightest_requires c κs = (tables c, ((start c).requires.0.fair.near, few c))

-- the settings to try first are known
abbrev Ready : Type 0
Ready = tie.After-tightest-known invariant-loop decreases-loop invariant-candidate decreases-candidate invariant-sum decreases-sum

abbrev whole : Ready → tie.After-settings-all invariant-loop decreases-loop invariant-candidate decreases-candidate invariant-sum decreases-sum
whole r = r.before

sum_holds : tie.Need-sum-init invariant-loop decreases-loop invariant-candidate decreases-candidate invariant-sum decreases-sum
sum_holds c = let p = (start (whole c)).requires in begin p.0 c.tightest-known.ensures

-- a sum
abbrev Sum : Type 0
Sum = tie.In-sum invariant-loop decreases-loop invariant-candidate decreases-candidate invariant-sum decreases-sum

abbrev sound : Sum → tie.After-settings-all invariant-loop decreases-loop invariant-candidate decreases-candidate invariant-sum decreases-sum
sound d = whole d.before.before

known_low : (d : Sum) → RememberedWithin 65536 d.sum.known
known_low d =
    let w = d.sum.invariant.within in
    let h = sound d in
    record {
      last_in = setting_low (count h) d.sum.known.last (few h) w.last_in;
      earlier_in = setting_low (count h) d.sum.known.earlier (few h) w.earlier_in;
    }

least_k_requires : tie.Need-least_k-least-requires invariant-loop decreases-loop invariant-candidate decreases-candidate invariant-sum decreases-sum
least_k_requires c κs = (tables (sound c), (near (sound c), (known_low c, c.sum.invariant.passed.high)))

candidate_holds : tie.Need-candidate-init invariant-loop decreases-loop invariant-candidate decreases-candidate invariant-sum decreases-sum
candidate_holds c =
    let d = c.before in
    let p = (start (sound d)).requires in
    let a = d.sum.invariant in
    let r = c.least_k-least.ensures in
    let passed =
    raised p.0 a.passed r.0.0 r.0.1 (λ k l b i h m. ruled_out p.0 p.1.0 p.1.1 k l a.within (r.1 k l b i h m)) in
    (refl, turn p.0 a d.sum-test.true passed)

-- a candidate
abbrev Here : Type 0
Here = tie.In-candidate invariant-loop decreases-loop invariant-candidate decreases-candidate invariant-sum decreases-sum

abbrev halves : Here → tie.After-settings-all invariant-loop decreases-loop invariant-candidate decreases-candidate invariant-sum decreases-sum
halves d = let sum = d.before.before.before in sound sum

abbrev sum : Here → ℕ
sum d = d.candidate.sum

abbrev k : Here → ℕ
k d = d.candidate.k

abbrev l : Here → ℕ
l d = sum d - k d

abbrev known : Here → Remembered
known d = d.candidate.known

-- what is known at it
at : (d : Here) → let g = (start (halves d)).args.a in AtCandidate (qualifies_on (aligned_in g)) (2 ^ g.count) (known d) d.least_k-least.result (sum d) (k d)
at d = d.candidate.invariant.1

kept : (d : Here) → sum d ≡ d.sum.sum
kept d = d.candidate.invariant.0

add_sum : tie.Need-overflow_step-sum invariant-loop decreases-loop invariant-candidate decreases-candidate invariant-sum decreases-sum
add_sum c = omega (arith, (at c.before).sum_high)

sum_less : tie.Need-sum-smaller-then-sum-k invariant-loop decreases-loop invariant-candidate decreases-candidate invariant-sum decreases-sum
sum_less c = omega (arith, (at c.before).sum_high, kept c.before)

sum_again : tie.Need-sum-preserved-then-sum-k invariant-loop decreases-loop invariant-candidate decreases-candidate invariant-sum decreases-sum
sum_again c =
    let d = c.before in
    let p = (start (halves d)).requires in
    past_sum p.0 (at d) c.if-sum-k.true

sub_l : tie.Need-overflow_sub-l invariant-loop decreases-loop invariant-candidate decreases-candidate invariant-sum decreases-sum
sub_l c = omega arith

add_k : tie.Need-overflow_step-k invariant-loop decreases-loop invariant-candidate decreases-candidate invariant-sum decreases-sum
add_k c = omega arith

candidate_less : tie.Need-candidate-smaller-then-l-gt32 invariant-loop decreases-loop invariant-candidate decreases-candidate invariant-sum decreases-sum
candidate_less c = omega arith

candidate_again : tie.Need-candidate-preserved-then-l-gt32 invariant-loop decreases-loop invariant-candidate decreases-candidate invariant-sum decreases-sum
candidate_again c =
    let d = c.before.before in
    let p = (start (halves d)).requires in
    (kept d, off p.0 (at d) d.candidate-test.true c.if-sum-k.false c.if-l-gt32.true)

-- a candidate on the dial
abbrev Tried : Type 0
Tried = tie.Else-l-gt32 invariant-loop decreases-loop invariant-candidate decreases-candidate invariant-sum decreases-sum

abbrev here : Tried → Here
here e = e.before.before

dial : (e : Tried) → DialLimits (k (here e)) (l (here e))
dial e = record { k_high = (here e).candidate-test.true; l_high = e.if-l-gt32.false }

low : (e : Tried) (s : ℕ) → s < 2 ^ count (halves (here e)) → s < 65536
low e s h = setting_low (count (halves (here e))) s (few (halves (here e))) h

within : (e : Tried) → RememberedWithin (2 ^ count (halves (here e))) (known (here e))
within e = (at (here e)).within

clears_at_requires : tie.Need-clears_at-requires invariant-loop decreases-loop invariant-candidate decreases-candidate invariant-sum decreases-sum
clears_at_requires c κs =
    let h = halves (here c) in
    (tables h, (near h, (dial c, low c (known (here c)).last (within c).last_in)))

bounds_above_at_requires : tie.Need-bounds_above_at-requires invariant-loop decreases-loop invariant-candidate decreases-candidate invariant-sum decreases-sum
bounds_above_at_requires c κs =
    let e = c.before.before in
    let h = halves (here e) in
    (tables h, low e (known (here e)).last (within e).last_in)

add_sum_2 : tie.Need-overflow_step-sum-then-bounds_above_at invariant-loop decreases-loop invariant-candidate decreases-candidate invariant-sum decreases-sum
add_sum_2 c = let e = c.before.before.before.before in omega (arith, (at (here e)).sum_high)

sum_less_2 : tie.Need-sum-smaller-then-bounds_above_at invariant-loop decreases-loop invariant-candidate decreases-candidate invariant-sum decreases-sum
sum_less_2 c = let e = c.before.before.before.before in omega (arith, (at (here e)).sum_high, kept (here e))

sum_again_2 : tie.Need-sum-preserved-then-bounds_above_at invariant-loop decreases-loop invariant-candidate decreases-candidate invariant-sum decreases-sum
sum_again_2 c =
    let e = c.before.before.before.before in
    let p = (start (halves (here e))).requires in
    let s = (known (here e)).last in
    past_bound p.0 s (at (here e)) (within e).last_in
    (rest_differs p.0 p.1.0 p.1.1 (sum (here e)) (k (here e)) s (within e).last_in c.clears_at.ensures c.if-not-clears_at.true-raw
    c.bounds_above_at.ensures c.if-bounds_above_at.true)

add_k_2 : tie.Need-overflow_step-k-then-not-clears_at invariant-loop decreases-loop invariant-candidate decreases-candidate invariant-sum decreases-sum
add_k_2 c = omega arith

candidate_less_2 : tie.Need-candidate-smaller-then-not-clears_at invariant-loop decreases-loop invariant-candidate decreases-candidate invariant-sum decreases-sum
candidate_less_2 c = omega arith

candidate_again_2 : tie.Need-candidate-preserved-then-not-clears_at invariant-loop decreases-loop invariant-candidate decreases-candidate invariant-sum decreases-sum
candidate_again_2 c =
    let e = c.before.before.before.before in
    let p = (start (halves (here e))).requires in
    let s = (known (here e)).last in (
      kept (here e),
      differs p.0 s (at (here e)) (here e).candidate-test.true e.if-sum-k.false (within e).last_in (within e)
          (tested p.0 p.1.0 p.1.1 (k (here e)) (l (here e)) s (within e).last_in c.clears_at.ensures) c.if-not-clears_at.true-raw,
    )

clears_at_requires_2 : tie.Need-clears_at-requires-in-candidate invariant-loop decreases-loop invariant-candidate decreases-candidate invariant-sum decreases-sum
clears_at_requires_2 c κs =
    let e = c.before.before in
    let h = halves (here e) in
    (tables h, (near h, (dial e, low e (known (here e)).earlier (within e).earlier_in)))

bounds_above_at_requires_2 : tie.Need-bounds_above_at-requires-then-not-clears_at-2 invariant-loop decreases-loop invariant-candidate decreases-candidate invariant-sum decreases-sum
bounds_above_at_requires_2 c κs =
    let e = c.before.before.before.before in
    let h = halves (here e) in
    (tables h, low e (known (here e)).earlier (within e).earlier_in)

add_sum_3 : tie.Need-overflow_step-sum-then-bounds_above_at-2 invariant-loop decreases-loop invariant-candidate decreases-candidate invariant-sum decreases-sum
add_sum_3 c = let e = c.before.before.before.before.before.before in omega (arith, (at (here e)).sum_high)

sum_less_3 : tie.Need-sum-smaller-then-bounds_above_at-2 invariant-loop decreases-loop invariant-candidate decreases-candidate invariant-sum decreases-sum
sum_less_3 c = let e = c.before.before.before.before.before.before in omega (arith, (at (here e)).sum_high, kept (here e))

sum_again_3 : tie.Need-sum-preserved-then-bounds_above_at-2 invariant-loop decreases-loop invariant-candidate decreases-candidate invariant-sum decreases-sum
sum_again_3 c =
    let e = c.before.before.before.before.before.before in
    let p = (start (halves (here e))).requires in
    let s = (known (here e)).earlier in
    past_bound p.0 s (at (here e)) (within e).earlier_in
    (rest_differs p.0 p.1.0 p.1.1 (sum (here e)) (k (here e)) s (within e).earlier_in c.clears_at-in-candidate.ensures c.if-not-clears_at-2.true-raw
    c.bounds_above_at-then-not-clears_at-2.ensures c.if-bounds_above_at-2.true)

add_k_3 : tie.Need-overflow_step-k-then-not-clears_at-2 invariant-loop decreases-loop invariant-candidate decreases-candidate invariant-sum decreases-sum
add_k_3 c = omega arith

candidate_less_3 : tie.Need-candidate-smaller-then-not-clears_at-2 invariant-loop decreases-loop invariant-candidate decreases-candidate invariant-sum decreases-sum
candidate_less_3 c = omega arith

candidate_again_3 : tie.Need-candidate-preserved-then-not-clears_at-2 invariant-loop decreases-loop invariant-candidate decreases-candidate invariant-sum decreases-sum
candidate_again_3 c =
    let e = c.before.before.before.before.before.before in
    let p = (start (halves (here e))).requires in
    let s = (known (here e)).earlier in (
      kept (here e),
      differs p.0 s (at (here e)) (here e).candidate-test.true e.if-sum-k.false (within e).earlier_in (within e)
          (tested p.0 p.1.0 p.1.1 (k (here e)) (l (here e)) s (within e).earlier_in c.clears_at-in-candidate.ensures) c.if-not-clears_at-2.true-raw,
    )

scale_fits_requires : tie.Need-scale_fits-requires invariant-loop decreases-loop invariant-candidate decreases-candidate invariant-sum decreases-sum
scale_fits_requires c κs =
    let e = c.before.before.before.before in
    ((start (halves (here e))).requires.0, dial e)

-- a candidate whose scale is tested
abbrev Scaled : Type 0
Scaled = tie.After-scale_fits invariant-loop decreases-loop invariant-candidate decreases-candidate invariant-sum decreases-sum

abbrev tried : Scaled → Tried
tried s = s.before.before.before.before.before

add_k_4 : tie.Need-overflow_step-k-then-not-scale_fits invariant-loop decreases-loop invariant-candidate decreases-candidate invariant-sum decreases-sum
add_k_4 c = omega arith

candidate_less_4 : tie.Need-candidate-smaller-then-not-scale_fits invariant-loop decreases-loop invariant-candidate decreases-candidate invariant-sum decreases-sum
candidate_less_4 c = omega arith

candidate_again_4 : tie.Need-candidate-preserved-then-not-scale_fits invariant-loop decreases-loop invariant-candidate decreases-candidate invariant-sum decreases-sum
candidate_again_4 c =
    let e = tried c.before in
    let p = (start (halves (here e))).requires in (
      kept (here e),
      unscaled p.0 (at (here e)) (here e).candidate-test.true e.before.if-sum-k.false c.scale_fits.ensures c.if-not-scale_fits.true-raw,
    )

clear_settings_requires : tie.Need-clear_settings-clear-requires invariant-loop decreases-loop invariant-candidate decreases-candidate invariant-sum decreases-sum
clear_settings_requires c κs =
    let e = tried c.before in
    let p = (start (halves (here e))).requires in
    (p.0, (dial e, (p.1.0, p.1.1)))

-- a candidate whose settings are gone through
abbrev Scanned : Type 0
Scanned = tie.After-clear_settings-clear invariant-loop decreases-loop invariant-candidate decreases-candidate invariant-sum decreases-sum

abbrev of : Scanned → Tried
of c = tried c.before.before

loop_holds : tie.Need-loop-setting-init invariant-loop decreases-loop invariant-candidate decreases-candidate invariant-sum decreases-sum
loop_holds c =
    let e = of c in
    setting_begin (start (halves (here e))).requires.0 (k (here e)) (l (here e)) (known (here e)) c.clear_settings-clear.ensures

-- a setting
abbrev Turn : Type 0
Turn = tie.In-loop-setting invariant-loop decreases-loop invariant-candidate decreases-candidate invariant-sum decreases-sum

abbrev by : Turn → Tried
by d = of d.before.before

abbrev setting : Turn → ℕ
setting d = d.loop-setting.setting

inside : (d : Turn) → setting d < 2 ^ count (halves (here (by d)))
inside d = omega (arith, d.loop-setting-test.true, (halves (here (by d))).settings-all.ensures)

clears_at_requires_3 : tie.Need-clears_at-requires-in-loop-setting invariant-loop decreases-loop invariant-candidate decreases-candidate invariant-sum decreases-sum
clears_at_requires_3 c κs =
    let e = by c in
    let h = halves (here e) in
    (tables h, (near h, (rw c.loop-setting.invariant.kept (dial e), low e (setting c) (inside c))))

-- what the test of a setting says
agreed : (c : tie.After-clears_at-in-loop-setting invariant-loop decreases-loop invariant-candidate decreases-candidate invariant-sum decreases-sum) → let d = c.before in
    c.clears_at-in-loop-setting.result ≡ clears_on (aligned_in (start (halves (here (by d)))).args.a) d.loop-setting.k (l (here (by d))) (setting d)
agreed c =
    let d = c.before in
    let p = (start (halves (here (by d)))).requires in
    tested p.0 p.1.0 p.1.1 d.loop-setting.k (l (here (by d))) (setting d) (inside d) c.clears_at-in-loop-setting.ensures

remembered_requires : tie.Need-remembered-known-requires invariant-loop decreases-loop invariant-candidate decreases-candidate invariant-sum decreases-sum
remembered_requires c κs =
    let d = c.before.before in
    let e = by d in
    let known_low : RememberedWithin 65536 (known (here e)) = record {
      last_in = low e (known (here e)).last (within e).last_in;
      earlier_in = low e (known (here e)).earlier (within e).earlier_in;
    } in
    (tables (halves (here e)), (rw d.loop-setting.invariant.kept_known known_low, low e (setting d) (inside d)))

add_k_5 : tie.Need-overflow_step-k-then-not-clears_at-3 invariant-loop decreases-loop invariant-candidate decreases-candidate invariant-sum decreases-sum
add_k_5 c =
    let d = c.before.before.before in
    omega (arith, d.loop-setting.invariant.kept, (here (by d)).candidate-test.true)

candidate_less_5 : tie.Need-candidate-smaller invariant-loop decreases-loop invariant-candidate decreases-candidate invariant-sum decreases-sum
candidate_less_5 c =
    let d = c.before.before.before in
    omega (arith, d.loop-setting.invariant.kept, (here (by d)).candidate-test.true)

candidate_again_5 : tie.Need-candidate-preserved invariant-loop decreases-loop invariant-candidate decreases-candidate invariant-sum decreases-sum
candidate_again_5 c =
    let d = c.before.before.before in
    let e = by d in
    let p = (start (halves (here e))).requires in
    let i = d.loop-setting.invariant in
    let n = 2 ^ count (halves (here e)) in
    let remembered = c.remembered-known.ensures n (subst (RememberedWithin n) (sym i.kept_known) (within e)) (inside d) in (
      kept (here e),
      setting_differs p.0 (setting d) (at (here e)) (here e).candidate-test.true e.before.if-sum-k.false (inside d)
          remembered i.kept (agreed c.before.before) c.if-not-clears_at-3.true-raw,
    )

add_setting : tie.Need-overflow_step-setting invariant-loop decreases-loop invariant-candidate decreases-candidate invariant-sum decreases-sum
add_setting c =
    let d = c.before.before in
    record { fits = omega (arith, low (by d) (setting d) (inside d)) }

loop_less : tie.Need-loop-setting-smaller invariant-loop decreases-loop invariant-candidate decreases-candidate invariant-sum decreases-sum
loop_less c = omega arith

loop_again : tie.Need-loop-setting-preserved invariant-loop decreases-loop invariant-candidate decreases-candidate invariant-sum decreases-sum
loop_again c =
    let d = c.before.before in
    let p = (start (halves (here (by d)))).requires in
    setting_more p.0 (l (here (by d))) d.loop-setting.invariant (inside d) (agreed c.before) c.if-not-clears_at-3.false-raw

returns : tie.Need-returns-in-candidate invariant-loop decreases-loop invariant-candidate decreases-candidate invariant-sum decreases-sum
returns c =
    let scanned = c.before.before in
    let e = of scanned in
    let h = halves (here e) in
    found (start h).requires.0 (at (here e)) (here e).candidate-test.true e.before.if-sum-k.false e.if-l-gt32.false
    c.scale_fits.ensures c.if-not-scale_fits.false-raw c.loop-setting.invariant (omega (arith, c.loop-setting-test.false, h.settings-all.ensures))

add_sum_4 : tie.Need-overflow_step-sum-in-sum invariant-loop decreases-loop invariant-candidate decreases-candidate invariant-sum decreases-sum
add_sum_4 c = omega (arith, c.candidate.invariant.1.sum_high)

sum_less_4 : tie.Need-sum-smaller invariant-loop decreases-loop invariant-candidate decreases-candidate invariant-sum decreases-sum
sum_less_4 c = omega (arith, c.candidate.invariant.1.sum_high, c.candidate.invariant.0)

sum_again_4 : tie.Need-sum-preserved invariant-loop decreases-loop invariant-candidate decreases-candidate invariant-sum decreases-sum
sum_again_4 c =
    let d = c.before.before.before in
    let p = (start (sound d)).requires in
    past_dial p.0 c.candidate.invariant.1 c.candidate-test.false

returns_2 : tie.Need-returns invariant-loop decreases-loop invariant-candidate decreases-candidate invariant-sum decreases-sum
returns_2 c =
    let p = (start (whole c.before.before)).requires in
    none p.0 c.sum.invariant c.sum-test.false

pub scan_spec : {M : Type 1} → statement M
scan_spec =
    tie.close
    (tie.spec
    invariant-loop
    decreases-loop
    invariant-candidate
    decreases-candidate
    invariant-sum
    decreases-sum
    settings_requires
    tightest_requires
    sum_holds
    least_k_requires
    candidate_holds
    add_sum
    sum_less
    sum_again
    sub_l
    add_k
    candidate_less
    candidate_again
    clears_at_requires
    bounds_above_at_requires
    add_sum_2
    sum_less_2
    sum_again_2
    add_k_2
    candidate_less_2
    candidate_again_2
    clears_at_requires_2
    bounds_above_at_requires_2
    add_sum_3
    sum_less_3
    sum_again_3
    add_k_3
    candidate_less_3
    candidate_again_3
    scale_fits_requires
    add_k_4
    candidate_less_4
    candidate_again_4
    clear_settings_requires
    loop_holds
    clears_at_requires_3
    remembered_requires
    add_k_5
    candidate_less_5
    candidate_again_5
    add_setting
    loop_less
    loop_again
    returns
    add_sum_4
    sum_less_4
    sum_again_4
    returns_2)
