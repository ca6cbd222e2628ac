-- ok is the test of the places passed.
use Rattle.std.proofs.Common.{◌≡◌}
use Rattle.basics.specs.Lists.{below}
use Rattle.network.specs.Record.{place_clear}
use Rattle.network_soundness.proofs.places_clear.Given as goal

abbrev pub invariant-loop-p : goal.invariant-loop-p
invariant-loop-p l = l.ok ≡ below l.p (place_clear l.network.gates l.network.fanins l.network.signals l.network.weights)
