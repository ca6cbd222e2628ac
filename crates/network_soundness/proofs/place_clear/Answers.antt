-- The code is the definition, test for test. Assumes nothing.
use Rattle.std.proofs.Common.{rules, to_z-of_z, get_or, SFits}
use Rattle.std.specs.Prelude.{pos}
use Rattle.std.specs.Int.{w32}
use Rattle.network.specs.Record.{place_clear, used_place}
use Rattle.network_soundness.proofs.place_clear.Goals as goal

pub returns : goal.returns
unfolding place_clear used_place
returns c =
    let fits : SFits w32 (get_or c.args.network.now.weights c.args.p (pos 0)) = search rules in
    rw (c.from.ensures, c.is_zero.ensures, to_z-of_z fits)
