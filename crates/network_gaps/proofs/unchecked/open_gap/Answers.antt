-- The places from the gap on moved up, and spare ones in it. Assumes nothing.
use Rattle.std.proofs.Common.{arith}
use Rattle.network_gaps.specs.GapLaws.{gap_opened}
use Rattle.network_gaps.proofs.unchecked.open_gap.Goals as goal

pub returns : goal.returns
returns g c =
    let a = c.args in
    let moved = c.copy_within.ensures in
    gap_opened a.spare a.first a.gap _ a.places.now c.copy_within.new.self c.fill.new.self c.requires.in_places (omega arith)
    moved.len moved.by_index.0 moved.by_index.1 (c.fill.ensures.after c.requires.copied.1)
