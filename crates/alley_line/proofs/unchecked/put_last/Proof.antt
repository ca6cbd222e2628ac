-- The word with its number, and a byte after it.
use Prim.Native.Nat.{◌<◌}
use native.Mathlib.Omega.{arith}
use lib.ListN.{length, length-append}
use borrow.Author.Rules.{rules}
use Rattle.texts.specs.Texts.{decimal}
use Rattle.texts.proofs.PutLaws.{put_byte, put_length}
use Rattle.alley_line.proofs.unchecked.put_last.Statement.{statement}
use Rattle.alley_line.proofs.unchecked.put_last.Tie as tie

-- room for the line feed
room : (c : tie.After-put_number-at) → c.put_number-at.result < length c.args.out.now
room c =
    omega (arith, c.put_number-at.ensures.long, length-append c.args.word.now (decimal c.args.n), c.requires)

slice_write_out : tie.Need-bounds-out-at
slice_write_out c = let done = c.before.before in let h = room done in omega (arith, put_length done.put_number-at.ensures (omega arith))

add_result : tie.Need-overflow_add-result
add_result c = let done = c.before.before in let h = room done in record { fits = omega (arith, done.well_formed.0.0) }

returns : tie.Need-returns
returns c = let done = c.before.before in put_byte done.put_number-at.ensures 10 (room done)

same_length : tie.Need-shape_of-out
same_length c = let h = room c.before.before in put_length (returns c) (omega arith)

pub put_last_spec : {M : Type 1} → statement M
put_last_spec = tie.close (tie.spec (λ c κs. search rules) slice_write_out add_result same_length returns)
