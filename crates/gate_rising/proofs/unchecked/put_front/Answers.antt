-- The lower of two members goes to its place.
use Rattle.gate_rising.proofs.Choice.{lower_put}
use Rattle.gate_rising.proofs.unchecked.put_front.Goals as goal

pub returns : goal.returns
returns c =
    lower_put c.args.n c.args.weight c.args.a c.args.b c.args.sums.now c.requires _ c.min.type_inv c.min.ensures.value c.from.ensures
