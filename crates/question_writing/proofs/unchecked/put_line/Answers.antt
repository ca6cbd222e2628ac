-- The terms, and the relation in the part after them.
use Rattle.std.proofs.Common.{length, ap, arith, w32, to_z-of_z, length-append}
use Rattle.basics.specs.SizeLaws.{size_fits}
use Rattle.basics.specs.WriteLaws.{tail_length}
use Rattle.question_theory.specs.Text.{terms_text, relation_text}
use Rattle.question_terms.specs.Terms.{line_in}
use Rattle.question_writing.specs.TextPartLaws.{line_parts}
use Rattle.texts.proofs.PutLaws.{put_text, put_part, put_length}
use Rattle.question_writing.proofs.unchecked.put_line.Goals as goal

pub put_terms-at-requires : goal.put_terms-at-requires
unfolding line_in
put_terms-at-requires c =
    let line = line_in c.args.line in
    let narrow = c.requires.printable_line.narrow in
    record {
      printable = record {
        numbers = narrow.numbers;
        short = omega (arith, length-append (terms_text line.terms) (relation_text line.right), ap length (line_parts line), narrow.short, c.requires.in_bounds);
      };
    }

pub put_relation-requires : goal.put_relation-requires
unfolding line_in
put_relation-requires c =
    let line = line_in c.args.line in
    let narrow = c.requires.printable_line.narrow in
    let fits = size_fits w32 c.args.line.right (omega (arith, narrow.side)) in
    let put = c.put_terms-at.ensures in
    let whole = length-append (terms_text line.terms) (relation_text line.right) in
    let parts = ap length (line_parts line) in
    rw (to_z-of_z fits) (omega (arith, whole, parts, narrow.short, put.long, put_length put (omega (arith, whole, parts, narrow.short)), tail_length c.put_terms-at.result c.put_terms-at.new.out))

pub returns : goal.returns
unfolding line_in
returns c =
    let line = line_in c.args.line in
    let narrow = c.requires.printable_line.narrow in
    let fits = size_fits w32 c.args.line.right (omega (arith, narrow.side)) in
    let put = c.put_terms-at.ensures in
    let after = rw (to_z-of_z fits) at c.put_relation.ensures in
    let whole = length-append (terms_text line.terms) (relation_text line.right) in
    let parts = ap length (line_parts line) in
    put_text (put_part put (omega (arith, whole, parts, narrow.short, put.long, after.long)) after) (line_parts line)
