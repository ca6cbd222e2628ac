-- The rows are written at their places, and nothing else changes. Assumes nothing.
use Rattle.std.proofs.Common.{rules, pos, ◌*◌, arith, refl}
use Rattle.network_places.specs.PasteLaws.{pasted_part}
use Rattle.network_places.proofs.unchecked.store_gate.Goals as goal

pub returns : goal.returns
returns c = let n = c.args.network.now in record {
  arrays = record {
    fanin = refl;
    threshold = search rules;
    row_signals = rw (← c.copy_from_slice.ensures.after) (pasted_part 0 (16 * c.args.g) 16 _ n.signals _ (omega arith) (omega arith) (omega arith));
    row_weights = rw (← c.copy_from_slice-2.ensures.after) (pasted_part (pos 0) (16 * c.args.g) 16 _ n.weights _ (omega arith) (omega arith) (omega arith));
  };
  rest = refl;
}
