-- The sign of the relation, the right side and the line's end, one after the other.
use mathlib.Core.Path.{◌≡◌, ap}
use mathlib.Core.List.{[], ◌∷◌, ◌++◌}
use Prim.Native.Nat.{◌+◌, ◌-◌, ◌≤◌}
use native.Mathlib.Omega.{arith}
use lib.ListN.{length}
use mir.Syntax.{w32}
use mir.Facts.{to_z-of_z}
use mir.Val.{to_z, of_z}
use borrow.Author.Rules.{rules}
use borrow.Rule.Slice.PartMut.{put_mid}
use Rattle.basics.specs.WriteLaws.{tail_length}
use Rattle.question_theory.specs.Text.{right_side}
use Rattle.texts.specs.Writes.{TextPut}
use Rattle.question_writing.specs.TextPartLaws.{relation_parts, relation_length}
use Rattle.texts.proofs.PutLaws.{put_text, put_part, put_length}
use Rattle.question_writing.proofs.unchecked.put_relation.Statement.{statement}
use Rattle.question_writing.proofs.unchecked.put_relation.Tie as tie

-- the room for the whole
long : (c : tie.Start) → length (right_side c.args.right) + 6 ≤ length c.args.out.now
long c = omega (arith, relation_length c.args.right, c.requires)

-- the right side as its writer gets it
right_is : (c : tie.Start) → right_side (to_z w32 (of_z w32 c.args.right)) ≡ right_side c.args.right
right_is c = ap right_side (to_z-of_z c.ranges.right)

-- the sign of the relation
first_room : (c : tie.After-put_bytes-at) → (c.put_bytes-at.result ≡ 3)
    × (length c.put_bytes-at.new.out ≡ length c.args.out.now)
first_room c =
    let r : c.put_bytes-at.result ≡ 3 = omega (arith, c.put_bytes-at.ensures.long) in
    (r, put_length c.put_bytes-at.ensures (omega (arith, long c.before.before.before.before.before)))

-- the right side after it
-- where `>= ` is put, and the start before it
abbrev at_start : tie.After-put_bytes-at → tie.Start
at_start c = c.before.before.before.before.before

abbrev at_sign : tie.After-put_right → tie.After-put_bytes-at
at_sign c = c.before.before.before.before

room : (c : tie.After-put_right)
    → c.put_bytes-at.result + c.put_right.result + 3 ≤ length (at_start (at_sign c)).args.out.now
room c =
    let done = c.before.before.before.before in
    let start = c.before.before.before.before.before.before.before.before.before in
    omega (arith, c.put_right.ensures.long, ap length (right_is start), first_room done, long start)

second : (c : tie.After-put_right) →
    let a = c.args in
    let at = c.put_bytes-at.result in
    let xs = c.put_bytes-at.new.out in
    TextPut ((62 ∷ 61 ∷ 32 ∷ []) ++ right_side a.right) (at + c.put_right.result) a.out.now (put_mid at (length xs - at) xs c.put_right.new.out)
second c =
    put_part c.put_bytes-at.ensures (omega (arith, room c)) (put_text c.put_right.ensures (right_is c.before.before.before.before.before.before.before.before.before))

second_long : (c : tie.After-put_right) →
    let at = c.put_bytes-at.result in
    let xs = c.put_bytes-at.new.out in
    length (put_mid at (length xs - at) xs c.put_right.new.out) ≡ length c.args.out.now
second_long c = put_length (second c) (omega (arith, room c))

-- the line's end
end : (c : tie.After-put_bytes) → c.put_bytes.result ≡ 3
end c = omega (arith, c.put_bytes.ensures.long)

put_bytes_requires : tie.Need-put_bytes-at-requires
put_bytes_requires c κs = omega (arith, long c.before.before.before.before)

sub_put_right : tie.Need-slice_bounds-put_right-count
sub_put_right c = omega (arith, first_room c.before.before, long c.before.before.before.before.before.before.before)

part_put_right_start : tie.Need-slice_bounds-put_right-start
part_put_right_start c = omega (arith, first_room c.before.before, long c.before.before.before.before.before.before.before)

put_right_requires : tie.Need-put_right-requires
put_right_requires c κs =
    let done = c.before.before.before in
    let start = c.before.before.before.before.before.before.before.before in
    omega (arith, ap length (right_is start), first_room done, long start, tail_length done.put_bytes-at.result done.put_bytes-at.new.out)

add_end : tie.Need-overflow_add-end
add_end c = record {
  fits = omega
      (arith, room c.before.before, (at_start (at_sign c.before.before)).well_formed.0.0);
}

sub_put_bytes : tie.Need-slice_bounds-put_bytes-count
sub_put_bytes c = omega (arith, second_long c.before.before, room c.before.before)

part_put_bytes_start : tie.Need-slice_bounds-put_bytes-start
part_put_bytes_start c = omega (arith, second_long c.before.before, room c.before.before)

put_bytes_requires_2 : tie.Need-put_bytes-requires
put_bytes_requires_2 c κs =
    let right_done = c.before.before.before.before.before in
    let at = c.put_bytes-at.result in
    let xs = c.put_bytes-at.new.out in
    omega (
      arith,
      second_long right_done,
      room right_done,
      tail_length (at + right_done.put_right.result)
          (put_mid at (length xs - at) xs right_done.put_right.new.out),
    )

add_result : tie.Need-overflow_add-result
add_result c =
    let done = c.before.before in
    let right_done = c.before.before.before.before.before.before.before.before in
    record { fits = omega (arith, end done, room right_done, (at_start (at_sign right_done)).well_formed.0.0) }

returns : tie.Need-returns
returns c =
    let done = c.before.before in
    let right_done = c.before.before.before.before.before.before.before.before in
    put_text (put_part (second right_done) (omega (arith, end done, room right_done)) done.put_bytes.ensures)
    (relation_parts (at_start (at_sign right_done)).args.right)

same_length : tie.Need-shape_of-out
same_length c =
    let done = c.before.before in
    let right_done = c.before.before.before.before.before.before.before.before in
    put_length (returns c) (omega (arith, end done, room right_done))

pub put_relation_spec : {M : Type 1} → statement M
put_relation_spec =
    tie.close
    (tie.spec
    put_bytes_requires
    sub_put_right
    part_put_right_start
    (λ c. search rules)
    put_right_requires
    add_end
    sub_put_bytes
    part_put_bytes_start
    (λ c. search rules)
    put_bytes_requires_2
    add_result
    same_length
    returns)
