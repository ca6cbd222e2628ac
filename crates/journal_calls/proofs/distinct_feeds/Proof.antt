-- 20 for the journal, else the answer on the network. Assumes nothing.
use borrow.Author.Rules.{rules}
use mathlib.Core.Path.{sym, ap, ◌∙◌}
use Rattle.fold_merge.specs.Answers.{on_record}
use Rattle.fold_feeds.specs.Feeds.{feeds, as_feeds, distinct_feeds}
use Rattle.journal_calls.specs.Answers.{feeds_on}
use Rattle.journal_calls.specs.AnswerLaws.{tested_many, tested_few}
use Rattle.journal_calls.proofs.distinct_feeds.Statement.{statement}
use Rattle.journal_calls.proofs.distinct_feeds.Tie as tie

returns : tie.Need-returns-then-count-gt64
unfolding feeds_on
returns c =
    let a = c.args in
    c.no_feeds.ensures ∙ sym (ap as_feeds (tested_many a.held (on_record a.held.network (λ N. feeds N a.u a.v)) c.if-count-gt64.true))

returns_2 : tie.Need-returns
unfolding feeds_on distinct_feeds
returns_2 c =
    let a = c.args in
    c.distinct_feeds.ensures ∙ sym (ap as_feeds (tested_few a.held (on_record a.held.network (λ N. feeds N a.u a.v)) c.if-count-gt64.false))

pub distinct_feeds_spec : {M : Type 1} → statement M
distinct_feeds_spec = tie.close (tie.spec (λ c κs. search rules) returns (λ c κs. search rules) returns_2)
