use Rattle.std.proofs.Common.{◌≡◌, true, take}
use Rattle.basics.specs.Lists.{all}
use Rattle.network.specs.Threshold.{fits_frame}
use Rattle.scorer_play.proofs.unchecked.short_frames.Given as goal

abbrev pub invariant-loop-count : goal.invariant-loop-count
invariant-loop-count l = all (fits_frame l.inputs) (take l.count l.fn.frames) ≡ true
