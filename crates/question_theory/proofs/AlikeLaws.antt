-- Networks with equal input and output counts: the test of it, and its facts. Assumes nothing.
use Rattle.std.specs.Prelude.{◌≡◌, true, eqb, length}
use borrow.Author.Tests.{eqb-true, eq-eqb}
use Rattle.basics.specs.TestLaws.{and_left, and_right}
use Rattle.network.specs.Threshold.{Net}
use Rattle.question_theory.specs.Question.{alike}

module _ (N M : Net) where
  pub alike_inputs : alike N M ≡ true → N.inputs ≡ M.inputs
  unfolding alike
  alike_inputs e = eqb-true N.inputs M.inputs (and_left _ (eqb (length N.outputs) (length M.outputs)) e)

  pub alike_outputs : alike N M ≡ true → length N.outputs ≡ length M.outputs
  unfolding alike
  alike_outputs e = eqb-true (length N.outputs) (length M.outputs) (and_right (eqb N.inputs M.inputs) _ e)

  pub alike_of : N.inputs ≡ M.inputs → length N.outputs ≡ length M.outputs → alike N M ≡ true
  unfolding alike
  alike_of e f = rw (eq-eqb N.inputs M.inputs e, eq-eqb (length N.outputs) (length M.outputs) f)
