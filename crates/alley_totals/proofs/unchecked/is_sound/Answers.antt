use Rattle.std.proofs.Common.{le-leb}
use Rattle.std.proofs.lemmas.Bool.{lt-leb}
use Rattle.alley_theory.specs.Answers.{sound_totals}
use Rattle.alley_totals.proofs.unchecked.is_sound.Goals as goal

pub returns-then-lanes-gt65535 : goal.returns-then-lanes-gt65535
unfolding sound_totals
returns-then-lanes-gt65535 c = rw (lt-leb c.args.totals.lanes 65535 c.if-lanes-gt65535.true)

pub returns : goal.returns
unfolding sound_totals
returns c = rw (le-leb c.args.totals.lanes 65535 c.if-lanes-gt65535.false)
