-- The file of the record in the other version.
use borrow.Author.Rules.{rules}
use mathlib.Core.Path.{sym, ap, ◌∙◌}
use mathlib.Core.List.{List}
use Prim.Native.Nat.{ℕ}
use lib.ListN.{length}
use Rattle.basics.specs.Refusals.{Answer, code_of, stored}
use Rattle.pmn_opening.specs.Files.{length_of}
use Rattle.pmn_versions.proofs.VersionLaws.{with_sound}
use Rattle.pmn_converter.specs.ConversionLaws.{with_file}
use Rattle.pmn_converter.proofs.files.put_other.Statement.{statement}
use Rattle.pmn_converter.proofs.files.put_other.Tie as tie

put_file_requires : tie.Need-put_file-requires
put_file_requires c κs = (with_sound c.args.network c.requires.0 c.requires.1.0 c.in_other_version-other.ensures, c.requires.1.1)

returns : tie.Need-returns
returns c =
    let a = c.args in
    let e = sym (with_file a.network c.requires.0 c.requires.1.0 c.in_other_version-other.ensures (length a.out.now)) in (
      c.put_file.ensures.0 ∙ ap code_of e,
      (
        c.put_file.ensures.1.0 ∙ ap (λ (f : Answer (List ℕ)). stored f a.out.now) e,
        c.put_file.ensures.1.1 ∙ ap (λ (f : Answer (List ℕ)). stored (length_of f) a.answer.now) e,
      ),
    )

pub put_other_spec : {M : Type 1} → statement M
put_other_spec =
    tie.close
    (tie.spec
    (λ c κs. search rules)
    put_file_requires
    (λ c. search rules)
    (λ c. search rules)
    returns)
