-- The four places hold the numbers one after the other.
use borrow.Author.Rules.{rules}
use mathlib.Core.Path.{◌≡◌}
use Prim.Native.Nat.{suc, ◌+◌}
use native.Mathlib.Omega.{arith}
use lib.ListN.{set, length-set}
use Rattle.call_numbers.proofs.unchecked.put_four.Statement.{statement}
use Rattle.call_numbers.proofs.unchecked.put_four.Tie as tie

slice_write_answers_2 : tie.Need-bounds-answers-at-2
slice_write_answers_2 c = simp length-set (omega arith)

slice_write_answers_3 : tie.Need-bounds-answers-at-3
slice_write_answers_3 c = simp length-set (omega arith)

slice_write_answers_4 : tie.Need-bounds-answers-at-4
slice_write_answers_4 c = simp length-set (omega arith)

same_length : tie.Need-shape_of-answers
same_length c = simp length-set

returns : tie.Need-returns
returns c =
    let a = c.args in
    let f = a.figures in
    let one : a.at + 1 ≡ suc a.at = omega arith in
    let two : a.at + 2 ≡ suc (suc a.at) = omega arith in
    let three : a.at + 3 ≡ suc (suc (suc a.at)) = omega arith in
    λ x. set (set (set (set a.answers.now a.at a.code) (one x) f.first) (two x) f.second) (three x) f.third

pub put_four_spec : {M : Type 1} → statement M
put_four_spec =
    tie.close
    (tie.spec
    (λ c. search rules)
    (λ c. search rules)
    (λ c. search rules)
    (λ c. search rules)
    slice_write_answers_2
    (λ c. search rules)
    (λ c. search rules)
    slice_write_answers_3
    (λ c. search rules)
    (λ c. search rules)
    slice_write_answers_4
    same_length
    returns)
