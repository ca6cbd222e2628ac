-- 20 for the journal, else the answer on the network. Assumes nothing.
use borrow.Author.Rules.{rules}
use mathlib.Core.Path.{sym, ap, ◌∙◌}
use Rattle.network_report.specs.Size.{report_of}
use Rattle.fold_theory.specs.Collapse.{collapse}
use Rattle.fold_merge.specs.Answers.{on_record}
use Rattle.fold_preview.specs.Preview.{previewed}
use Rattle.journal_calls.specs.Answers.{preview_on}
use Rattle.journal_calls.specs.AnswerLaws.{tested_many, tested_few}
use Rattle.journal_calls.proofs.preview.Statement.{statement}
use Rattle.journal_calls.proofs.preview.Tie as tie

returns : tie.Need-returns-then-count-gt64
unfolding preview_on previewed report_of
returns c =
    let a = c.args in
    sym (ap report_of (tested_many a.held (on_record a.held.network (λ N. collapse N a.s)) c.if-count-gt64.true))

returns_2 : tie.Need-returns
unfolding preview_on previewed report_of
returns_2 c =
    let a = c.args in
    c.preview.ensures ∙ sym (ap report_of (tested_few a.held (on_record a.held.network (λ N. collapse N a.s)) c.if-count-gt64.false))

pub preview_spec : {M : Type 1} → statement M
preview_spec = tie.close (tie.spec returns (λ c κs. search rules) returns_2)
