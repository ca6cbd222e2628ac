-- The gates passed keep the margins.
use Rattle.std.proofs.Common.{◌≡◌, true}
use Rattle.basics.specs.Lists.{below}
use Rattle.network.specs.Margins.{places_keep}
use Rattle.network.proofs.unchecked.each_keeps.Given as goal

abbrev pub invariant-loop-g : goal.invariant-loop-g
invariant-loop-g l = below l.g (places_keep l.network.board l.network.fanins l.network.thresholds l.network.weights) ≡ true
