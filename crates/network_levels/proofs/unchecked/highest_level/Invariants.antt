-- The highest level among the feeds passed.
use Rattle.network_levels.specs.Arrays.{levels_in}
use Rattle.network_levels.proofs.LevelLaws.{FeedsSeen}
use Rattle.network_levels.proofs.unchecked.highest_level.Given as goal

abbrev pub invariant-loop-signal : goal.invariant-loop-signal
invariant-loop-signal l = FeedsSeen (levels_in l.levels) l.signals l.signal-index l.most
