-- 20 for either journal, else the answer on the networks. Assumes nothing.
use borrow.Author.Rules.{rules}
use mathlib.Core.Path.{sym, ap, ◌∙◌}
use mathlib.Core.List.{List}
use Prim.Native.Nat.{ℕ}
use lib.ListN.{length}
use Rattle.basics.specs.Refusals.{Answer, stored}
use Rattle.journal.specs.Records.{tested}
use Rattle.question_text.specs.Answers.{line_answer, as_line_written}
use Rattle.journal_calls.specs.Answers.{line_on}
use Rattle.journal_calls.specs.AnswerLaws.{tested_many, tested_few}
use Rattle.journal_calls.proofs.line.Statement.{statement}
use Rattle.journal_calls.proofs.line.Tie as tie

returns : tie.Need-returns-then-one-gt64
unfolding line_on as_line_written stored
returns c =
    let a = c.args in
    let out = a.out.now in
    let e = tested_many a.first (tested a.second (line_answer a.first.network a.second.network a.n (length out))) c.if-one-gt64.true in
    (sym (ap as_line_written e), sym (ap (λ (x : Answer (List ℕ)). stored x out) e))

returns_2 : tie.Need-returns-then-other-gt64
unfolding line_on as_line_written stored
returns_2 c =
    let a = c.args in
    let out = a.out.now in
    let given = line_answer a.first.network a.second.network a.n (length out) in
    let e = tested_few a.first (tested a.second given) c.if-one-gt64.false ∙ tested_many a.second given c.if-other-gt64.true in
    (sym (ap as_line_written e), sym (ap (λ (x : Answer (List ℕ)). stored x out) e))

returns_3 : tie.Need-returns
unfolding line_on
returns_3 c =
    let a = c.args in
    let out = a.out.now in
    let given = line_answer a.first.network a.second.network a.n (length out) in
    let e = tested_few a.first (tested a.second given) c.if-one-gt64.false ∙ tested_few a.second given c.if-other-gt64.false in
    (c.line.ensures.0 ∙ sym (ap as_line_written e), c.line.ensures.1 ∙ sym (ap (λ (x : Answer (List ℕ)). stored x out) e))

pub line_spec : {M : Type 1} → statement M
line_spec = tie.close (tie.spec returns returns_2 (λ c κs. search rules) (λ c. search rules) returns_3)
