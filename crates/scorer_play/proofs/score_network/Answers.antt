use Rattle.std.proofs.Common.{ap, sym, ◌∙◌, arith, length}
use Rattle.basics.specs.Refusals.{refused}
use Rattle.scorer_tally.specs.Sheets.{as_sheet}
use Rattle.scorer_play.specs.Play.{word_game}
use Rattle.scorer_play.specs.WordLaws.{batch_broken, batch_sound, batch_words, sheet_words, sheet_broken, sheet_few, wide_broken}
use Rattle.scorer_play.proofs.score_network.Goals as goal

pub returns-then-inputs-gt40 : goal.returns-then-inputs-gt40
returns-then-inputs-gt40 c =
    let a = c.args in
    c.refused.ensures ∙ sym (sheet_broken a.network a.frames.now (wide_broken a.network (omega (arith, c.if-inputs-gt40.true))))

pub returns-then-code-ne0 : goal.returns-then-code-ne0
returns-then-code-ne0 c =
    let short = c.short_frames-count.ensures in
    let a = c.args in
    let broken = batch_broken a.network short c.read_frames-code.ensures.value c.if-code-ne0.true in
    c.refused-then-code-ne0.ensures ∙ ap (λ k. as_sheet (refused k)) broken.0 ∙ sym (sheet_broken a.network a.frames.now broken.1)

pub returns-then-network-lt10 : goal.returns-then-network-lt10
returns-then-network-lt10 c =
    let short = c.short_frames-count.ensures in
    let a = c.args in
    let sound = batch_sound a.network short c.read_frames-code.ensures.value c.if-code-ne0.false in
    c.refused-then-network-lt10.ensures ∙ sym (sheet_few a.network a.frames.now sound (omega (arith, c.if-network-lt10.true)))

pub returns : goal.returns
returns c =
    let short = c.short_frames-count.ensures in
    let a = c.args in
    let words = batch_words a.network short c.read_frames-code.ensures.value c.if-code-ne0.false c.read_frames-code.ensures.answers_after in
    let sound = batch_sound a.network short c.read_frames-code.ensures.value c.if-code-ne0.false in
    c.play.ensures ∙ ap (λ ws. as_sheet (word_game ws (length a.frames.now))) words
    ∙ sym (sheet_words a.network short sound c.if-network-lt10.false)
