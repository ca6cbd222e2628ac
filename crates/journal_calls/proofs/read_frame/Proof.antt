-- 20 for the journal, else the answer on the network. Assumes nothing.
use borrow.Author.Rules.{rules}
use mathlib.Core.Path.{sym, ap, ◌∙◌}
use Rattle.frame_reading.specs.Reading.{frame_answer, as_reading, reading}
use Rattle.journal_calls.specs.Answers.{reading_on}
use Rattle.journal_calls.specs.AnswerLaws.{tested_many, tested_few}
use Rattle.journal_calls.proofs.read_frame.Statement.{statement}
use Rattle.journal_calls.proofs.read_frame.Tie as tie

returns : tie.Need-returns-then-count-gt64
unfolding reading_on reading as_reading
returns c =
    let a = c.args in
    sym (ap as_reading (tested_many a.held (frame_answer a.held.network a.frame) c.if-count-gt64.true))

returns_2 : tie.Need-returns
unfolding reading_on reading as_reading
returns_2 c =
    let a = c.args in
    c.read_frame.ensures ∙ sym (ap as_reading (tested_few a.held (frame_answer a.held.network a.frame) c.if-count-gt64.false))

pub read_frame_spec : {M : Type 1} → statement M
read_frame_spec = tie.close (tie.spec returns (λ c κs. search rules) returns_2)
