-- The next number is as it was, and minus it fits.
use Rattle.std.proofs.Common.{◌≡◌, pos, ◌-ℤ◌, get_or, length, w32, SFits, to_z, of_z, to_z-of_z, arith, rules}
use Rattle.basics.specs.SizeLaws.{size_minus, size_fits}
use Rattle.pair_complement.proofs.Front.{front_next, front_at, minus_is}
use Rattle.pair_complement.proofs.unchecked.negated.Goals as goal

pub loop-number-preserved : goal.loop-number-preserved
loop-number-preserved c =
    let xs = c.args.numbers in
    let i = c.loop-number.number-index in
    let held : to_z w32 (of_z w32 (get_or xs i (pos 0))) ≡ get_or xs i (pos 0)
    = to_z-of_z (size_fits w32 (get_or xs i (pos 0)) (omega (arith, c.requires i))) in
    let fits : SFits w32 (pos 0 -ℤ get_or xs i (pos 0)) = size_fits w32 _ (omega (arith, size_minus (get_or xs i (pos 0)), c.requires i)) in
    let long : length xs ≡ 16 = search rules in
    rw (c.loop-number.invariant, front_at i xs, held, to_z-of_z fits)
    (front_next i xs _ (minus_is (get_or xs i (pos 0))) (omega arith))
