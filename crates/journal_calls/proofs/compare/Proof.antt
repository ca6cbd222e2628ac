-- 20 for either journal, else the answer on the networks. Assumes nothing.
use borrow.Author.Rules.{rules}
use mathlib.Core.Path.{◌∙◌}
use Rattle.journal.specs.Records.{tested}
use Rattle.compare_networks.specs.Answers.{compare_answer}
use Rattle.journal_calls.specs.Answers.{compared_on}
use Rattle.journal_calls.specs.AnswerLaws.{tested_many, tested_few}
use Rattle.journal_calls.proofs.compare.Statement.{statement}
use Rattle.journal_calls.proofs.compare.Tie as tie

returns : tie.Need-returns-then-one-gt64
unfolding compared_on
returns c =
    let a = c.args in
    rw (tested_many a.first (tested a.second (compare_answer a.first.network a.second.network)) c.if-one-gt64.true) c.refusal.ensures

returns_2 : tie.Need-returns-then-count-gt64
unfolding compared_on
returns_2 c =
    let a = c.args in
    let given = compare_answer a.first.network a.second.network in
    let e = tested_few a.first (tested a.second given) c.if-one-gt64.false ∙ tested_many a.second given c.if-count-gt64.true in
    rw e c.refusal-then-count-gt64.ensures

returns_3 : tie.Need-returns
unfolding compared_on
returns_3 c =
    let a = c.args in
    let given = compare_answer a.first.network a.second.network in
    let e = tested_few a.first (tested a.second given) c.if-one-gt64.false ∙ tested_few a.second given c.if-count-gt64.false in
    rw e c.compare.ensures

pub compare_spec : {M : Type 1} → statement M
compare_spec = tie.close (tie.spec (λ c κs. search rules) returns (λ c κs. search rules) returns_2 (λ c κs. search rules) returns_3)
