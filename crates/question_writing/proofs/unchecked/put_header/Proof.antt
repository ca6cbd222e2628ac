-- Two words, each with a number, and a line feed.
use mathlib.Core.Path.{◌≡◌}
use mathlib.Core.List.{◌++◌}
use Prim.Native.Nat.{◌+◌, ◌-◌, ◌≤◌, ◌<◌}
use native.Mathlib.Omega.{arith}
use lib.ListN.{length}
use borrow.Author.Rules.{rules}
use borrow.Rule.Slice.PartMut.{put_mid}
use Rattle.basics.specs.WriteLaws.{tail_length}
use Rattle.texts.specs.Texts.{decimal}
use Rattle.question_theory.specs.Text.{variable_word, constraint_word}
use Rattle.texts.specs.Writes.{TextPut}
use Rattle.question_writing.specs.TextPartLaws.{header_parts, header_text_length}
use Rattle.texts.proofs.PutLaws.{put_text, put_byte, put_part, put_length}
use Rattle.question_writing.proofs.unchecked.put_header.Statement.{statement}
use Rattle.question_writing.proofs.unchecked.put_header.Tie as tie

-- the room for the whole header
long : (c : tie.Start) → length (decimal c.args.variables) + length (decimal c.args.lines) + 28 ≤ length c.args.out.now
long c = omega (arith, header_text_length c.args.variables c.args.lines, c.requires)

-- where the first word is put, and the start before it
abbrev at_start : tie.After-put_number-at → tie.Start
at_start c = c.before.before.before.before.before

abbrev at_first : tie.After-put_number → tie.After-put_number-at
at_first c = c.before.before.before.before.before.before

-- the first word with its number
first : (c : tie.After-put_number-at) → TextPut (variable_word ++ decimal c.args.variables) c.put_number-at.result
    c.args.out.now c.put_number-at.new.out
unfolding variable_word
first c = c.put_number-at.ensures

first_room : (c : tie.After-put_number-at) → c.put_number-at.result + length (decimal c.args.lines) + 15 ≤ length
    c.args.out.now
first_room c = omega (arith, c.put_number-at.ensures.long, long c.before.before.before.before.before)

first_long : (c : tie.After-put_number-at) → length c.put_number-at.new.out ≡ length c.args.out.now
first_long c = put_length (first c) (omega (arith, first_room c))

-- the second
room : (c : tie.After-put_number)
    → c.put_number-at.result + c.put_number.result < length (at_start (at_first c)).args.out.now
room c = omega (arith, c.put_number.ensures.long, first_room c.before.before.before.before.before.before)

second : (c : tie.After-put_number) →
    let a = c.args in
    let at = c.put_number-at.result in
    let xs = c.put_number-at.new.out in
    TextPut ((variable_word ++ decimal a.variables) ++ (constraint_word ++ decimal a.lines)) (at + c.put_number.result) a.out.now
    (put_mid at (length xs - at) xs c.put_number.new.out)
unfolding constraint_word
second c = let h = room c in put_part (first c.before.before.before.before.before.before) (omega arith) c.put_number.ensures

put_number_requires : tie.Need-put_number-at-requires
put_number_requires c κs = omega (arith, long c.before.before.before.before)

sub_put_number : tie.Need-slice_bounds-put_number-count
sub_put_number c = omega (arith, first_long c.before.before, first_room c.before.before)

part_put_number_start : tie.Need-slice_bounds-put_number-start
part_put_number_start c = omega (arith, first_long c.before.before, first_room c.before.before)

put_number_requires_2 : tie.Need-put_number-requires
put_number_requires_2 c κs =
    let done = c.before.before.before.before.before in
    omega (arith, first_long done, first_room done, tail_length done.put_number-at.result done.put_number-at.new.out)

add_end : tie.Need-overflow_add-end
add_end c = record {
  fits = omega
      (arith, room c.before.before, (at_start (at_first c.before.before)).well_formed.0.0);
}

slice_write_out : tie.Need-bounds-out-end
slice_write_out c = let done = c.before.before in let h = room done in omega (arith, put_length (second done) (omega arith))

add_result : tie.Need-overflow_add-result
add_result c = record
    { fits = omega (arith, room c.before.before, (at_start (at_first c.before.before)).well_formed.0.0) }

returns : tie.Need-returns
returns c =
    let done = c.before.before in
    let a = (at_start (at_first done)).args in
    put_text (put_byte (second done) 10 (room done)) (header_parts a.variables a.lines)

same_length : tie.Need-shape_of-out
same_length c = let h = room c.before.before in put_length (returns c) (omega arith)

pub put_header_spec : {M : Type 1} → statement M
put_header_spec =
    tie.close
    (tie.spec
    put_number_requires
    sub_put_number
    part_put_number_start
    (λ c. search rules)
    put_number_requires_2
    add_end
    slice_write_out
    add_result
    same_length
    returns)
