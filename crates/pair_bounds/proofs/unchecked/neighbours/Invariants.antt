-- The terms stay on the dial.
use Rattle.pair_bounds.specs.Ranges.{NeighboursOnDial}
use Rattle.pair_bounds.proofs.unchecked.neighbours.Given as goal

abbrev pub invariant-loop : goal.invariant-loop
invariant-loop l = NeighboursOnDial l.pair
