-- 20 for the journal, else the answer on the network. Assumes nothing.
use borrow.Author.Rules.{rules}
use mathlib.Core.Path.{sym, ap, ◌∙◌}
use Rattle.basics.specs.Refusals.{accepted}
use Rattle.network_report.specs.Size.{report_of, reported}
use Rattle.fold_merge.specs.Answers.{on_record}
use Rattle.journal_calls.specs.Answers.{report_on}
use Rattle.journal_calls.specs.AnswerLaws.{tested_many, tested_few}
use Rattle.journal_calls.proofs.report.Statement.{statement}
use Rattle.journal_calls.proofs.report.Tie as tie

returns : tie.Need-returns-then-count-gt64
unfolding report_on reported report_of on_record
returns c =
    let a = c.args in
    sym (ap report_of (tested_many a.held (on_record a.held.network accepted) c.if-count-gt64.true))

returns_2 : tie.Need-returns
unfolding report_on reported report_of on_record
returns_2 c =
    let a = c.args in
    c.report.ensures ∙ sym (ap report_of (tested_few a.held (on_record a.held.network accepted) c.if-count-gt64.false))

pub report_spec : {M : Type 1} → statement M
report_spec = tie.close (tie.spec returns (λ c κs. search rules) returns_2)
