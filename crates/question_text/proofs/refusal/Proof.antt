-- A refusal has the number, and 0 for the length.
use mathlib.Core.Path.{refl}
use Rattle.question_text.specs.Answers.{as_line_written}
use Rattle.question_text.proofs.refusal.Statement.{statement}
use Rattle.question_text.proofs.refusal.Tie as tie

returns : tie.Need-returns
unfolding as_line_written
returns c = refl

pub refusal_spec : {M : Type 1} → statement M
refusal_spec = tie.close (tie.spec returns)
