-- The higher of two members goes to its place.
use Rattle.std.proofs.Common.{◌-◌}
use Rattle.gate_rising.proofs.Choice.{higher_put}
use Rattle.gate_rising.proofs.unchecked.put_back.Goals as goal

pub returns : goal.returns
returns c =
    higher_put c.args.n c.args.weight (c.args.c - 1) (c.args.d - 1) c.args.sums.now c.requires.2 _ c.max.type_inv c.max.ensures.value c.from.ensures
