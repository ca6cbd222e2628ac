-- A row of places is the table of its values. Assumes nothing.
use Rattle.std.proofs.Common.{rules, pos, get_or, ◌∙◌, ◌*◌, arith, ◌≡◌, w32}
use mir.Val.{to_z, of_z}
use Rattle.network.specs.Record.{row_at}
use Rattle.network_places.specs.PasteLaws.{part_tab}
use Rattle.network_places.proofs.unchecked.gate_at.Goals as goal

pub returns : goal.returns
unfolding row_at
returns c = let n = c.args.network.now in λ x. record {
  fanin = get_or n.fanins c.args.g 0;
  threshold = (let t : to_z w32 (of_z w32 (get_or n.thresholds c.args.g (pos 0))) ≡ get_or n.thresholds c.args.g (pos 0) = search rules in t) x;
  signals = (c.copy_from_slice.ensures.after ∙ part_tab 0 (16 * c.args.g) 16 _ n.signals (omega arith) (omega arith)) x;
  weights = (c.copy_from_slice-2.ensures.after ∙ part_tab (pos 0) (16 * c.args.g) 16 _ n.weights (omega arith) (omega arith)) x;
}
