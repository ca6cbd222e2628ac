-- 20 for the journal, else the answer on the network. Assumes nothing.
use borrow.Author.Rules.{rules}
use mathlib.Core.Path.{sym, ap, ◌∙◌}
use Rattle.fold_theory.specs.Pair.{pair}
use Rattle.fold_merge.specs.Answers.{on_record}
use Rattle.fold_pair.specs.Answers.{as_pair, pair_found}
use Rattle.journal_calls.specs.Answers.{pair_on}
use Rattle.journal_calls.specs.AnswerLaws.{tested_many, tested_few}
use Rattle.journal_calls.proofs.pair.Statement.{statement}
use Rattle.journal_calls.proofs.pair.Tie as tie

returns : tie.Need-returns-then-count-gt64
unfolding pair_on pair_found as_pair
returns c =
    let a = c.args in
    sym (ap as_pair (tested_many a.held (on_record a.held.network (λ N. pair N a.u a.v)) c.if-count-gt64.true))

returns_2 : tie.Need-returns
unfolding pair_on pair_found as_pair
returns_2 c =
    let a = c.args in
    c.pair.ensures ∙ sym (ap as_pair (tested_few a.held (on_record a.held.network (λ N. pair N a.u a.v)) c.if-count-gt64.false))

pub pair_spec : {M : Type 1} → statement M
pair_spec = tie.close (tie.spec returns (λ c κs. search rules) returns_2)
