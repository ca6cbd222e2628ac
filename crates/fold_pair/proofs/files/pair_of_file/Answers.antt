-- The refusal, then the pair of the file's network.
use Rattle.std.proofs.Common.{[], ◌∷◌}
use Rattle.basics.specs.RefusalLaws.{refused_one}
use Rattle.pmn_opening.specs.AnswerLaws.{placed}
use Rattle.pmn_opening.specs.OpeningLaws.{open_refused, file_sound}
use Rattle.fold_pair.specs.Files.{pair_places}
use Rattle.fold_pair.specs.FileLaws.{pair_answer}
use Rattle.fold_pair.proofs.files.pair_of_file.Goals as goal

pub returns-then-code-ne0 : goal.returns-then-code-ne0
unfolding pair_places
returns-then-code-ne0 c =
    let kept = refused_one c.args.answer.now (open_refused c.refusal-code.ensures _ c.if-code-ne0.true) in
    record { value = kept.0; answer_after = kept.1 }

pub pair_sound-found-requires : goal.pair_sound-found-requires
pair_sound-found-requires c = file_sound (c.refusal-code.ensures.gives c.if-code-ne0.false)

pub returns : goal.returns
returns c =
    let p = c.pair_sound-found in
    let a = c.args in
    let put = placed p.result.code (p.result.k ∷ p.result.l ∷ []) a.answer.now
    (pair_answer a.answer.now (c.refusal-code.ensures.gives c.if-code-ne0.false) a.u a.v p.ensures) (c.put_two.ensures.value, c.put_two.ensures.answer_after) in
    record { value = put.0; answer_after = put.1 }
