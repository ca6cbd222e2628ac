-- 20 for the journal, else the answer on the network. Assumes nothing.
use borrow.Author.Rules.{rules}
use mathlib.Core.Path.{sym, ap, ◌∙◌}
use mathlib.Core.List.{List}
use Prim.Native.Nat.{ℕ}
use Rattle.basics.specs.Refusals.{Answer, code_of, stored}
use Rattle.frame_batch.specs.Frames.{frames_answer}
use Rattle.journal_calls.specs.Answers.{frames_on}
use Rattle.journal_calls.specs.AnswerLaws.{tested_many, tested_few}
use Rattle.journal_calls.proofs.read_frames.Statement.{statement}
use Rattle.journal_calls.proofs.read_frames.Tie as tie

returns : tie.Need-returns-then-count-gt64
unfolding frames_on code_of stored
returns c =
    let a = c.args in
    let lent = a.answers.now in
    let e = tested_many a.held (frames_answer a.held.network a.frames.now lent) c.if-count-gt64.true in
    (sym (ap code_of e), sym (ap (λ (x : Answer (List ℕ)). stored x lent) e))

returns_2 : tie.Need-returns
unfolding frames_on
returns_2 c =
    let a = c.args in
    let lent = a.answers.now in
    let e = tested_few a.held (frames_answer a.held.network a.frames.now lent) c.if-count-gt64.false in
    (c.read_frames.ensures.0 ∙ sym (ap code_of e), c.read_frames.ensures.1 ∙ sym (ap (λ (x : Answer (List ℕ)). stored x lent) e))

pub read_frames_spec : {M : Type 1} → statement M
read_frames_spec = tie.close (tie.spec returns (λ c κs. search rules) (λ c. search rules) returns_2)
