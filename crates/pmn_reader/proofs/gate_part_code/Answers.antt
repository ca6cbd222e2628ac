use Rattle.std.proofs.Common.{sym, ap, ◌∙◌}
use Rattle.basics.specs.Refusals.{code_of}
use Rattle.pmn_reader.proofs.gate_part_code.Goals as goal

pub returns-in-Ok : goal.returns-in-Ok
unfolding code_of
returns-in-Ok c = sym (ap code_of c.in-Ok.ensures.answer)

pub returns-in-Err : goal.returns-in-Err
unfolding code_of
returns-in-Err c = c.number.ensures ∙ sym (ap code_of c.in-Err.ensures)
