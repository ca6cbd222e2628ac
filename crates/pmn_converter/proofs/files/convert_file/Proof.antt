-- The refusals in their order, then the file of the record in the other version.
use borrow.Author.Rules.{rules}
use borrow.Author.Tests.{not-true, not-false}
use mathlib.Core.Path.{◌≡◌, sym, ◌∙◌}
use mathlib.Core.Bool.{true}
use lib.ListN.{length}
use Rattle.network.specs.Record.{net_of}
use Rattle.pmn_opening.specs.Opening.{FileOpen}
use Rattle.pmn_opening.specs.AnswerLaws.{refused_two, same_two}
use Rattle.pmn_opening.specs.OpeningLaws.{file_sound, open_refused}
use Rattle.pmn_versions.specs.Versions.{convertible}
use Rattle.pmn_converter.specs.Conversion.{conversion_places}
use Rattle.pmn_converter.specs.ConversionLaws.{conversion_refused}
use Rattle.pmn_converter.specs.FileLaws.{converted_open}
use Rattle.pmn_converter.proofs.files.convert_file.Statement.{statement}
use Rattle.pmn_converter.proofs.files.convert_file.Tie as tie

refusal_requires : tie.Need-refusal-code-requires
refusal_requires c κs = (λ i. (c.shared_slice_known-1.given i).fits, c.read-read.ensures)

returns : tie.Need-returns-then-code-ne0
unfolding conversion_places
returns c =
    let a = c.args in
    refused_two a.out.now a.answer.now (open_refused c.refusal-code.ensures _ c.if-code-ne0.true)

-- the file that was read
file_open : (c : tie.Else-code-ne0) →
    let a = c.args in
    FileOpen a.file.now (length a.answer.now) 1 c.read-read.result.network
file_open c = c.refusal-code.ensures.gives c.if-code-ne0.false

returns_2 : tie.Need-returns-then-not-is_convertible
unfolding net_of
returns_2 c =
    let s = c.before.before.before in
    let a = s.args in
    let no = sym c.is_convertible.ensures ∙ not-true _ c.if-not-is_convertible.true-raw in
    refused_two a.out.now a.answer.now (converted_open (length a.out.now) (file_open s) ∙ conversion_refused _ (length a.out.now) no)

-- the record can be converted
can : (c : tie.Else-not-is_convertible) → convertible c.read-read.result.network.board ≡ true
can c = sym c.is_convertible.ensures ∙ not-false _ c.if-not-is_convertible.false-raw

put_other_requires : tie.Need-put_other-requires
put_other_requires c κs =
    let o = file_open c.before.before.before.before.before.before in
    (file_sound o, (can c.before.before.before, o.room))

returns_3 : tie.Need-returns
returns_3 c =
    let s = c.before.before.before.before.before.before.before.before.before.before.before in
    let a = s.args in
    same_two a.out.now a.answer.now (converted_open (length a.out.now) (file_open s)) c.put_other.ensures

pub convert_file_spec : {M : Type 1} → statement M
convert_file_spec =
    tie.close
    (tie.spec
    (λ c κs. search rules)
    refusal_requires
    returns
    (λ c κs. search rules)
    returns_2
    put_other_requires
    (λ c. search rules)
    (λ c. search rules)
    returns_3)
