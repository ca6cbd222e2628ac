use Rattle.basics.specs.Refusals.{code_of}
use Rattle.refusals.proofs.code.Goals as goal

pub returns-in-Err : goal.returns-in-Err
unfolding code_of
returns-in-Err c = rw (c.in-Err.is) (c.number.ensures)

pub returns-in-Ok : goal.returns-in-Ok
unfolding code_of
returns-in-Ok c = search
