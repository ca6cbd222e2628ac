-- The refusal, then the conversion of the file's record.
use borrow.Author.Rules.{rules}
use mathlib.Core.Path.{sym, ap, ◌∙◌}
use mathlib.Core.List.{List}
use Prim.Native.Nat.{ℕ}
use lib.ListN.{length}
use Rattle.basics.specs.Refusals.{Answer, stored}
use Rattle.pmn_opening.specs.OpeningLaws.{file_sound, read_refused}
use Rattle.pmn_converter.specs.Conversion.{conversion_of, as_converted}
use Rattle.pmn_converter.specs.FileLaws.{converted_read}
use Rattle.pmn_converter.proofs.convert.Statement.{statement}
use Rattle.pmn_converter.proofs.convert.Tie as tie

refusal_requires : tie.Need-refusal-code-requires
refusal_requires c κs = (λ i. (c.shared_slice_known-1.given i).fits, c.read-read.ensures)

returns : tie.Need-returns-then-code-ne0
unfolding conversion_of as_converted stored
returns c =
    let a = c.args in
    let e = sym (read_refused c.refusal-code.ensures _ c.if-code-ne0.true) in
    (ap as_converted e, ap (λ (x : Answer (List ℕ)). stored x a.out.now) e)

convert_sound_requires : tie.Need-convert_sound-requires
convert_sound_requires c κs = file_sound (c.refusal-code.ensures.gives c.if-code-ne0.false)

returns_2 : tie.Need-returns
returns_2 c =
    let v = c.convert_sound in
    let a = c.args in
    let e = sym (converted_read (length a.out.now) (c.refusal-code.ensures.gives c.if-code-ne0.false)) in
    (v.ensures.0 ∙ ap as_converted e, v.ensures.1 ∙ ap (λ (x : Answer (List ℕ)). stored x a.out.now) e)

pub convert_spec : {M : Type 1} → statement M
convert_spec =
    tie.close
    (tie.spec
    (λ c κs. search rules)
    refusal_requires
    returns
    convert_sound_requires
    (λ c. search rules)
    returns_2)
