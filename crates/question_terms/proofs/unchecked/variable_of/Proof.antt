-- The test is the definition's.
use native.Mathlib.Omega.{arith}
use mathlib.Core.Path.{sym}
use Rattle.question_theory.proofs.LineLaws.{second_input, second_gate}
use Rattle.question_terms.proofs.unchecked.variable_of.Statement.{statement}
use Rattle.question_terms.proofs.unchecked.variable_of.Tie as tie

add_result : tie.Need-overflow_add-result
add_result c = record { fits = omega arith }

returns : tie.Need-returns-then-signal-inputs
returns c = let a = c.args in sym (second_input a.inputs a.shift a.signal c.if-signal-inputs.true)

returns_2 : tie.Need-returns-else-signal-inputs
returns_2 c = let a = c.args in sym (second_gate a.inputs a.shift a.signal c.if-signal-inputs.false)

pub variable_of_spec : {M : Type 1} → statement M
variable_of_spec = tie.close (tie.spec add_result returns returns_2)
