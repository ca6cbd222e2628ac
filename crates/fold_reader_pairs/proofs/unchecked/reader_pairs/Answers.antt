-- The pairs of the gates passed so far stand in the arrays; the first refused one is the answer. Assumes nothing.
use Rattle.std.proofs.Common.{sym, arith}
use Rattle.fold_reader_pairs.specs.CollapsingLaws.{pair_small}
use Rattle.fold_reader_pairs.proofs.PairingLaws.{found_none, found_more}
use Rattle.fold_reader_pairs.proofs.unchecked.reader_pairs.Goals as goal

pub loop-g-init : goal.loop-g-init
loop-g-init c = found_none _ _ _ _

pub overflow_cast-pairs : goal.overflow_cast-pairs
overflow_cast-pairs c = omega (arith, pair_small _ _ (sym c.in-Ok.ensures))

pub overflow_cast-pairs-in-Ok : goal.overflow_cast-pairs-in-Ok
overflow_cast-pairs-in-Ok c = omega (arith, pair_small _ _ (sym c.in-Ok.ensures))

pub loop-g-preserved : goal.loop-g-preserved
loop-g-preserved c =
    let few = c.requires.0.few_gates in
    found_more c.loop-g.invariant c.in-Ok.pair.k c.in-Ok.pair.l (omega arith) (sym c.in-Ok.ensures)
