-- One lane more: the sum there, and what the feed adds to it.
use Rattle.std.specs.Prelude.{◌≡◌, cond, pos, get_or}
use Rattle.std.proofs.Common.{rules, refl, arith, to_z, of_z, to_z-of_z}
use Rattle.std.specs.Int.{w32}
use Rattle.basics.specs.SizeLaws.{size_fits, read_back}
use Rattle.network_places.specs.PasteLaws.{pasted_more}
use Rattle.frame_lanes.specs.Lanes.{is_on}
use Rattle.frame_lanes.specs.MaskLaws.{under_fits}
use Rattle.compare_lanes.proofs.unchecked.add_feed.Goals as goal

pub loop-f-preserved : goal.loop-f-preserved
loop-f-preserved c =
    let f = c.loop-f.f in
    let sum = get_or c.args.sums.now f (pos 0) in
    let mask = get_or c.args.row.now f (pos 0) in
    let small = c.requires.small f c.loop-f-test.true in
    let same : get_or c.loop-f.sums f (pos 0) ≡ sum = c.loop-f.invariant.after f (omega arith) in
    let weight : to_z w32 (of_z w32 c.args.weight) ≡ c.args.weight = to_z-of_z c.ranges.weight in
    let sum_is : to_z w32 (of_z w32 sum) ≡ sum = to_z-of_z (size_fits w32 sum (omega arith)) in
    let mask_is : to_z w32 (of_z w32 mask) ≡ mask = search rules in
    let share : to_z w32 (of_z w32 c.kept.result) ≡ cond (is_on mask) c.args.weight (pos 0) =
    read_back w32 c.kept.type_inv (rw (mask_is, weight) at c.kept.ensures) in
    let total = to_z-of_z (under_fits sum c.args.weight (is_on mask) small c.requires.light) in
    pasted_more _ _ c.loop-f.invariant (omega arith) (rw (same, sum_is, share, total, weight) refl)
