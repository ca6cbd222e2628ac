-- A lane's sum, and what the feed adds to it, within 32 bits.
use Rattle.std.proofs.Common.{◌+◌, get_or, pos, refl, arith, rules, w32, SFits, to_z-of_z}
use Rattle.network_places.specs.PasteLaws.{pasted_more}
use Rattle.frame_lanes.specs.Lanes.{is_on}
use Rattle.frame_lanes.specs.MaskLaws.{under_fits}
use Rattle.frame_lanes.proofs.unchecked.add_feed.Goals as goal

pub loop-f-preserved : goal.loop-f-preserved
loop-f-preserved c =
    let a = c.args in
    let f = c.loop-f.f in
    let mask = get_or a.masks.now (a.from + f) (pos 0) in
    let sum_fits : SFits w32 (get_or c.loop-f.sums f (pos 0)) = search rules in
    let mask_fits : SFits w32 mask = search rules in
    let kept_fits : SFits w32 c.kept.result = search rules in
    let total_fits = under_fits (get_or a.sums.now f (pos 0)) a.weight (is_on mask) (c.requires.small f (omega arith)) c.requires.light in
    pasted_more f _ c.loop-f.invariant (omega arith)
    (rw (to_z-of_z sum_fits, c.loop-f.invariant.after f (omega arith), to_z-of_z kept_fits, c.kept.ensures, to_z-of_z mask_fits, to_z-of_z c.ranges.weight, to_z-of_z total_fits) refl)
