-- The refusal, then the distinct feeds in the file's network. Assumes nothing.
use Rattle.basics.specs.RefusalLaws.{refused_one}
use Rattle.pmn_opening.specs.AnswerLaws.{placed}
use Rattle.pmn_opening.specs.OpeningLaws.{open_refused}
use Rattle.fold_feeds.specs.Parts.{feed_places}
use Rattle.fold_feeds.specs.Files.{distinct_places}
use Rattle.fold_feeds.specs.FileLaws.{distinct_few, distinct_answer}
use Rattle.fold_feeds.proofs.files.distinct_of_file.Goals as goal

pub returns-then-code-ne0 : goal.returns-then-code-ne0
unfolding distinct_places
returns-then-code-ne0 c =
    let kept = refused_one c.args.answer.now (open_refused c.refusal-code.ensures _ c.if-code-ne0.true) in
    record { value = kept.0; answer_after = kept.1 }

pub put_feeds-requires : goal.put_feeds-requires
put_feeds-requires c =
    let a = c.args in
    let file = c.refusal-code.ensures.gives c.if-code-ne0.false in
    record { in_bounds = file.room; count_bound = distinct_few a.answer.now file a.u a.v c.distinct_feeds-listed.ensures }

pub returns : goal.returns
returns c =
    let d = c.distinct_feeds-listed in
    let a = c.args in
    let put = placed d.result.code (feed_places d.result) a.answer.now
    (distinct_answer a.answer.now (c.refusal-code.ensures.gives c.if-code-ne0.false) a.u a.v d.ensures) (c.put_feeds.ensures.value, c.put_feeds.ensures.answer_after) in
    record { value = put.0; answer_after = put.1 }
