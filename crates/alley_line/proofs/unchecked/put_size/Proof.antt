-- The word with the gates, and the cost in the part after it.
use mathlib.Core.Path.{◌≡◌}
use Prim.Native.Nat.{◌+◌, ◌≤◌}
use native.Mathlib.Omega.{arith}
use lib.ListN.{length, length-append}
use borrow.Author.Rules.{rules}
use Rattle.basics.specs.WriteLaws.{tail_length}
use Rattle.texts.specs.Texts.{decimal}
use Rattle.texts.proofs.PutLaws.{put_text, put_part, put_length}
use Rattle.alley_theory.proofs.TextLaws.{size_parts, size_length}
use Rattle.alley_line.proofs.unchecked.put_size.Statement.{statement}
use Rattle.alley_line.proofs.unchecked.put_size.Tie as tie

-- the room for all
long : (c : tie.Start) → length c.args.word.now + length (decimal c.args.gates) + length (decimal c.args.cost) + 2 ≤ length c.args.out.now
long c = omega (arith, size_length c.args.gates c.args.cost, c.requires)

-- the room after the gates
first_room : (c : tie.After-put_number-at)
    → c.put_number-at.result + length (decimal c.args.cost) + 2 ≤ length c.args.out.now
first_room c =
    let start = c.before.before.before.before in
    omega (arith, c.put_number-at.ensures.long, length-append start.args.word.now (decimal start.args.gates), long start)

first_long : (c : tie.After-put_number-at) → length c.put_number-at.new.out ≡ length c.args.out.now
first_long c = put_length c.put_number-at.ensures (omega (arith, first_room c))

put_number_requires : tie.Need-put_number-at-requires
put_number_requires c κs = omega (arith, long c.before.before.before)

sub_put_last : tie.Need-slice_bounds-put_last-count
sub_put_last c = let done = c.before.before in omega (arith, first_long done, first_room done)

part_put_last_start : tie.Need-slice_bounds-put_last-start
part_put_last_start c = let done = c.before.before in omega (arith, first_long done, first_room done)

put_last_requires : tie.Need-put_last-requires
put_last_requires c κs =
    let done = c.before.before.before.before.before in
    omega (arith, first_long done, first_room done, tail_length done.put_number-at.result done.put_number-at.new.out)

-- the cost has room
end : (c : tie.After-put_last) → let done = c.before.before.before.before.before.before in
    done.put_number-at.result + c.put_last.result ≤ length done.args.out.now
end c =
    let done = c.before.before.before.before.before.before in
    omega (arith, first_room done, c.put_last.ensures.long, simp length-append at c.put_last.ensures.long)

add_result : tie.Need-overflow_add-result
add_result c =
    let last = c.before.before in
    record { fits = omega (arith, end last, c.well_formed.0.0) }

returns : tie.Need-returns
returns c =
    let done = c.before.before in
    let a = c.args in
    put_text (put_part c.put_number-at.ensures (end done) done.put_last.ensures) (size_parts a.gates a.cost a.word.now)

same_length : tie.Need-shape_of-out
same_length c = put_length (returns c) (end c.before.before)

pub put_size_spec : {M : Type 1} → statement M
put_size_spec =
    tie.close
    (tie.spec
    put_number_requires
    sub_put_last
    part_put_last_start
    (λ c. search rules)
    put_last_requires
    add_result
    same_length
    returns)
