-- The lower number is at most both, and the higher at least both.
use Rattle.std.proofs.Common.{◌≡◌, ◌∙◌, ap, ◌<◌, take, arith, rules, get_or, pos, w32, SFits, to_z, to_z-of_z}
use Rattle.std.specs.Prelude.{ℤ, T}
use Rattle.std.specs.Int.{int_min, int_max}
use Rattle.std.specs.Int.Signed.{le_z}
use Rattle.std.proofs.lemmas.Int.{ints}
use Rattle.std.proofs.Math.Seq.{get_or-take, length-take-le}
use Rattle.pair_spans.specs.SpanLaws.{span_more}
use Rattle.pair_spans.proofs.unchecked.span.Goals as goal

lower : (x y : ℤ) → T (le_z (int_min x y) x) × T (le_z (int_min x y) y)
lower x y = grind (arith, ints)

higher : (x y : ℤ) → T (le_z x (int_max x y)) × T (le_z y (int_max x y))
higher x y = grind (arith, ints)

pub loop-sum-preserved : goal.loop-sum-preserved
loop-sum-preserved c =
    let sums = c.args.sums.now in
    let i = c.loop-sum.sum-index in
    let inside : i < c.args.lows = omega (arith, length-take-le c.args.lows sums) in
    let at : get_or (take c.args.lows sums) i (pos 0) ≡ get_or sums i (pos 0) = get_or-take c.args.lows sums i (pos 0) inside in
    let fits : SFits w32 (get_or (take c.args.lows sums) i (pos 0)) = search rules in
    let least_fits : SFits w32 c.min-least.result = search rules in
    let most_fits : SFits w32 c.max-most.result = search rules in
    let least_was = to_z w32 c.loop-sum.least-bits in
    let most_was = to_z w32 c.loop-sum.most-bits in
    let least : c.min-least.result ≡ int_min least_was (get_or sums i (pos 0)) = c.min-least.ensures.value ∙ ap (int_min least_was) (to_z-of_z fits ∙ at) in
    let most : c.max-most.result ≡ int_max most_was (get_or sums i (pos 0)) = c.max-most.ensures.value ∙ ap (int_max most_was) (to_z-of_z fits ∙ at) in
    let low = lower least_was (get_or sums i (pos 0)) in
    let high = higher most_was (get_or sums i (pos 0)) in
    rw (to_z-of_z least_fits, to_z-of_z most_fits, least, most) (span_more c.loop-sum.invariant _ low.0 high.0 low.1 high.1)
