-- 20 for the journal, else the answer on the network. Assumes nothing.
use borrow.Author.Rules.{rules}
use mathlib.Core.Path.{sym, ap, ◌∙◌}
use mathlib.Core.List.{List}
use Prim.Native.Nat.{ℕ}
use lib.ListN.{length}
use Rattle.basics.specs.Refusals.{Answer, stored}
use Rattle.pmn_writer.specs.Answers.{write_answer, as_written, written, bytes_after}
use Rattle.journal_calls.specs.Answers.{writing_on}
use Rattle.journal_calls.specs.AnswerLaws.{tested_many, tested_few}
use Rattle.journal_calls.proofs.write.Statement.{statement}
use Rattle.journal_calls.proofs.write.Tie as tie

returns : tie.Need-returns-then-count-gt64
unfolding writing_on as_written stored
returns c =
    let a = c.args in
    let out = a.out.now in
    let e = tested_many a.held (write_answer a.held.network (length out)) c.if-count-gt64.true in
    (sym (ap as_written e), sym (ap (λ (x : Answer (List ℕ)). stored x out) e))

returns_2 : tie.Need-returns
unfolding writing_on written bytes_after
returns_2 c =
    let a = c.args in
    let out = a.out.now in
    let e = tested_few a.held (write_answer a.held.network (length out)) c.if-count-gt64.false in
    (c.write.ensures.0 ∙ sym (ap as_written e), c.write.ensures.1 ∙ sym (ap (λ (x : Answer (List ℕ)). stored x out) e))

pub write_spec : {M : Type 1} → statement M
write_spec = tie.close (tie.spec returns (λ c κs. search rules) (λ c. search rules) returns_2)
