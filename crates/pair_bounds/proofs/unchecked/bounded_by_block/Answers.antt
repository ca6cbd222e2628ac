-- What is given as a bound's setting is a setting of the block.
use Rattle.pair_bounds.proofs.unchecked.bounded_by_block.Goals as goal

pub loop-low-preserved : goal.loop-low-preserved
loop-low-preserved c =
    let l = c.loop-low in
    let e = c.bounded-bounds.ensures in
    record { on_dial = e.bounds_on_dial_2; within = λ n b j. e.by_index n (l.invariant.within n b j) (j l.low c.loop-low-test.true) }
