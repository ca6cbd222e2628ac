-- Each gate's weights are a part of the array. Assumes nothing.
use Rattle.std.proofs.Common.{◌≡◌, sym, ◌∙◌, arith, length}
use Rattle.basics.specs.Lists.{below}
use Rattle.basics.specs.ListLaws.{below_none, below_more, below_no}
use Rattle.basics.specs.TestLaws.{both_true}
use Rattle.network.specs.Margins.{places_keep}
use Rattle.network.proofs.KeepLaws.{place_few, place_asked, place_answered}
use Rattle.network.proofs.unchecked.each_keeps.Goals as goal

pub loop-g-init : goal.loop-g-init
loop-g-init c = let r = c.args.network.now in below_none (places_keep r.board r.fanins r.thresholds r.weights)

pub slice_bounds-weights-end : goal.slice_bounds-weights-end
slice_bounds-weights-end c = place_few c.args.network.now c.requires c.loop-g.g c.from.result c.loop-g-test.true c.from.ensures

pub keeps_margins-requires : goal.keeps_margins-requires
keeps_margins-requires c =
    let long : length c.args.network.now.weights ≡ 2048 = omega arith in
    place_asked c.args.network.now c.requires c.loop-g.g c.from.result c.loop-g-test.true c.from.ensures long

pub returns-then-not-keeps_margins : goal.returns-then-not-keeps_margins
returns-then-not-keeps_margins c =
    let r = c.args.network.now in
    let long : length r.weights ≡ 2048 = omega arith in
    let e = place_answered r c.requires c.loop-g.g c.from.result c.loop-g-test.true c.from.ensures long in
    sym (below_no r.gates (places_keep r.board r.fanins r.thresholds r.weights) c.loop-g.g c.loop-g-test.true
    (sym (c.keeps_margins.ensures ∙ e) ∙ c.if-not-keeps_margins.true))

pub loop-g-preserved : goal.loop-g-preserved
loop-g-preserved c =
    let r = c.args.network.now in
    let long : length r.weights ≡ 2048 = omega arith in
    let e = place_answered r c.requires c.loop-g.g c.from.result c.loop-g-test.true c.from.ensures long in
    let kept = places_keep r.board r.fanins r.thresholds r.weights in
    below_more kept c.loop-g.g
    ∙ both_true (below c.loop-g.g kept) (kept c.loop-g.g) c.loop-g.invariant (sym (c.keeps_margins.ensures ∙ e) ∙ c.if-not-keeps_margins.false)
