-- The highest level so far and among the feeds that are left. Assumes nothing.
use Rattle.std.proofs.Common.{ap, ◌∙◌, ℕ, max, arith, get_or}
use Rattle.network_levels.proofs.LevelLaws.{feeds_next, feeds_all}
use Rattle.network_levels.proofs.unchecked.highest_level.Goals as goal

pub loop-signal-preserved : goal.loop-signal-preserved
loop-signal-preserved c =
    let l = c.loop-signal in
    feeds_next l.invariant _ (c.max-most.ensures ∙ ap (λ (s : ℕ). max l.most (get_or c.args.levels.now s 0)) c.from.ensures) c.loop-signal-test.true

pub returns : goal.returns
returns c = feeds_all c.loop-signal.invariant (omega arith)
