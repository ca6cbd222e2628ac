-- The feeds passed are sound where ok says so, and the test of the feeds that are left makes up the whole test.
use Rattle.std.proofs.Common.{◌≡◌, ◌-◌, length}
use Rattle.std.specs.Prelude.{◌&&◌}
use Rattle.network.specs.Record.{feeds_from}
use Rattle.network.specs.SoundLaws.{feeds_ok}
use Rattle.network_soundness.proofs.feeds_sound.Given as goal

abbrev pub invariant-loop-signal : goal.invariant-loop-signal
invariant-loop-signal l =
    l.ok && feeds_ok l.low l.own (feeds_from l.signals l.weights (length l.yielded) (length l.signals - length l.yielded))
    ≡ feeds_ok 0 l.own (feeds_from l.signals l.weights 0 (length l.signals))
