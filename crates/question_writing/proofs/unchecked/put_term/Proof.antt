-- The coefficient, a space with the variable, and a space, one after the other.
use mathlib.Core.Path.{◌≡◌, ap}
use mathlib.Core.List.{[], ◌∷◌, ◌++◌}
use Prim.Native.Nat.{◌+◌, ◌-◌, ◌≤◌, ◌<◌}
use native.Mathlib.Omega.{arith}
use lib.ListN.{length}
use mir.Facts.{to_z-of_z}
use borrow.Author.Rules.{rules}
use borrow.Rule.Slice.PartMut.{put_mid}
use Rattle.basics.specs.WriteLaws.{tail_length}
use Rattle.texts.specs.Texts.{decimal}
use Rattle.question_theory.specs.Text.{coefficient}
use Rattle.texts.specs.Writes.{TextPut}
use Rattle.question_writing.specs.TextPartLaws.{term_parts, term_length}
use Rattle.texts.proofs.PutLaws.{put_text, put_byte, put_part, put_length}
use Rattle.question_writing.proofs.unchecked.put_term.Statement.{statement}
use Rattle.question_writing.proofs.unchecked.put_term.Tie as tie

-- the room for the whole term
long : (c : tie.Start) → length (coefficient c.args.coefficient) + length (decimal (c.args.variable + 1)) + 3 ≤ length c.args.out.now
long c = omega (arith, term_length c.args.variable c.args.coefficient, c.requires.1)

-- the coefficient
first : (c : tie.After-put_coefficient-at) → TextPut (coefficient c.args.coefficient) c.put_coefficient-at.result
    c.args.out.now c.put_coefficient-at.new.out
first c = put_text c.put_coefficient-at.ensures (ap coefficient (to_z-of_z c.ranges.coefficient))

first_room : (c : tie.After-put_coefficient-at)
    → c.put_coefficient-at.result + length (decimal (c.args.variable + 1)) + 3 ≤ length c.args.out.now
first_room c = omega (arith, (first c).long, long c.before.before.before)

first_long : (c : tie.After-put_coefficient-at) → length c.put_coefficient-at.new.out ≡ length c.args.out.now
first_long c = put_length (first c) (omega (arith, first_room c))

-- the variable after it
-- where the coefficient is put, and the start before it
abbrev at_start : tie.After-put_coefficient-at → tie.Start
at_start c = c.before.before.before

abbrev at_coefficient : tie.After-put_number → tie.After-put_coefficient-at
at_coefficient c = c.before.before.before.before.before.before

room : (c : tie.After-put_number)
    → c.put_coefficient-at.result + c.put_number.result < length (at_start (at_coefficient c)).args.out.now
room c = omega (arith, c.put_number.ensures.long, first_room c.before.before.before.before.before.before)

named : (c : tie.After-put_number) →
    let a = c.args in
    let at = c.put_coefficient-at.result in
    let xs = c.put_coefficient-at.new.out in
    TextPut (coefficient a.coefficient ++ ((32 ∷ 120 ∷ []) ++ decimal (a.variable + 1))) (at + c.put_number.result) a.out.now
    (put_mid at (length xs - at) xs c.put_number.new.out)
named c = let h = room c in put_part (first c.before.before.before.before.before.before) (omega arith) c.put_number.ensures

put_coefficient_requires : tie.Need-put_coefficient-at-requires
put_coefficient_requires c κs = let start = c.before.before in
    omega (arith, ap (λ z. length (coefficient z)) (to_z-of_z start.ranges.coefficient), long start)

sub_put_number : tie.Need-slice_bounds-put_number-count
sub_put_number c = omega (arith, first_long c.before.before, first_room c.before.before)

part_put_number_start : tie.Need-slice_bounds-put_number-start
part_put_number_start c = omega (arith, first_long c.before.before, first_room c.before.before)

put_number_requires : tie.Need-put_number-requires
put_number_requires c κs =
    let done = c.before.before.before.before.before in
    omega (arith, first_long done, first_room done, tail_length done.put_coefficient-at.result done.put_coefficient-at.new.out)

add_end : tie.Need-overflow_add-end
add_end c = record {
  fits = omega
      (arith, room c.before.before, (at_start (at_coefficient c.before.before)).well_formed.0.0);
}

slice_write_out : tie.Need-bounds-out-end
slice_write_out c = let done = c.before.before in let h = room done in omega (arith, put_length (named done) (omega arith))

add_result : tie.Need-overflow_add-result
add_result c = record
    { fits = omega (arith, room c.before.before, (at_start (at_coefficient c.before.before)).well_formed.0.0) }

returns : tie.Need-returns
returns c =
    let done = c.before.before in
    let a = (at_start (at_coefficient done)).args in
    put_text (put_byte (named done) 32 (room done)) (term_parts a.variable a.coefficient)

same_length : tie.Need-shape_of-out
same_length c = let h = room c.before.before in put_length (returns c) (omega arith)

pub put_term_spec : {M : Type 1} → statement M
put_term_spec =
    tie.close
    (tie.spec
    put_coefficient_requires
    sub_put_number
    part_put_number_start
    (λ c. search rules)
    (λ c. search rules)
    put_number_requires
    add_end
    slice_write_out
    add_result
    same_length
    returns)
