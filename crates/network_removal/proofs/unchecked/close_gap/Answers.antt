-- The places after the gap moved down, and spare ones at the end. Assumes nothing.
use Rattle.std.proofs.Common.{refl}
use Rattle.network_places.specs.RemoveLaws.{gap_closed}
use Rattle.network_removal.proofs.unchecked.close_gap.Goals as goal

pub returns : goal.returns
returns g c =
    let a = c.args in
    let moved = c.copy_within.ensures in
    gap_closed a.spare a.first a.gap _ _ a.places.now c.copy_within.new.self c.fill.new.self c.requires.in_places refl refl
    moved.len moved.by_index.0 moved.by_index.1 (c.fill.ensures.after c.requires.copied.1)
