-- The loop's invariant: the line has the first i feeds as its terms.
use mathlib.Core.Path.{◌≡◌, ap, ◌∙◌}
use mathlib.Core.Bool.{cond}
use Prim.Native.Nat.{◌-◌, ◌≤◌, ◌<◌}
use native.Mathlib.Omega.{arith}
use lib.IntN.{ℤ, pos, nat_abs, neg_ℤ}
use lib.ListN.{get_or}
use mir.Syntax.{w32}
use mir.Facts.{to_z-of_z}
use mir.Val.{to_z, of_z}
use borrow.Author.Rules.{rules}
use Rattle.basics.specs.SizeLaws.{read_back}
use Rattle.network.specs.Limits.{scale}
use Rattle.question_theory.specs.Question.{second_variable}
use Rattle.question_terms.specs.Terms.{RecordOfLine}
use Rattle.question_terms.specs.TermLaws.{first_terms, first_none, first_step, first_all, first_count, stands_line, stands_is, stands_extendable}
use Rattle.question_terms.specs.TermLaws.{scaled_at}
use Rattle.question_terms.specs.SumLaws.{small_back}
use Rattle.question_terms.proofs.unchecked.feed_terms.Statement.{statement}
use Rattle.question_terms.proofs.unchecked.feed_terms.Tie as tie

abbrev invariant-loop : tie.invariant-loop-i
invariant-loop inputs shift negative right gate line₀ i₀ i-end line i =
    (i ≤ i-end) × RecordOfLine line (first_terms negative (second_variable inputs shift) gate (to_z w32 right) i)

abbrev decreases-loop : tie.decreases-loop-i
decreases-loop inputs shift negative right gate line₀ i₀ i-end line i = i-end - i

-- the number of the loop's feed is below the gate's count
below : (c : tie.In-loop-i invariant-loop decreases-loop) → (c.loop-i.i < c.args.gate.fanin) × (c.loop-i.i < 16)
below c = omega (arith, c.from-i-end.ensures, c.requires.0.few)

-- its weight is small
small : (c : tie.In-loop-i invariant-loop decreases-loop) → nat_abs (get_or c.args.gate.weights c.loop-i.i (pos 0)) ≤ scale
small c = scaled_at c.args.gate c.requires.0 c.loop-i.i (below c).0

loop_holds : tie.Need-loop-i-init invariant-loop decreases-loop
loop_holds c =
    let a = c.args in (
      omega arith,
      stands_is (first_none a.negative (second_variable a.inputs a.shift) a.gate (to_z w32 (of_z w32 a.right)))
          c.no_terms-line.ensures,
    )

element_copy_out_wide : tie.Need-bounds-gate-i invariant-loop decreases-loop
element_copy_out_wide c = (below c).1

mul_signed : tie.Need-offset_bounds-gate-i invariant-loop decreases-loop
mul_signed c = let h = below c.before.before.before in record { fits = omega arith }

element_copy_out_signed : tie.Need-bounds-gate-i-in-loop-i invariant-loop decreases-loop
element_copy_out_signed c = (below c.before.before.before).1

signed_requires : tie.Need-signed-coefficient-requires invariant-loop decreases-loop
signed_requires c κs = let h = small c.before.before.before.before in rw (small_back _ h) h

with_term_requires : tie.Need-with_term-line-requires invariant-loop decreases-loop
with_term_requires c κs =
    let in_loop = c.before.before.before.before.before in
    let l = in_loop.loop-i in
    let a = in_loop.args in
    let h = below in_loop in
    stands_extendable l.invariant.1
    (omega (arith, first_count a.negative (second_variable a.inputs a.shift) a.gate (to_z w32 (of_z w32 a.right)) l.i))

add_i : tie.Need-overflow_step-i invariant-loop decreases-loop
add_i c = let h = below c.before.before.before.before.before.before in record { fits = omega arith }

loop_less : tie.Need-loop-i-smaller invariant-loop decreases-loop
loop_less c = let h = c.loop-i-test.true in omega arith

loop_again : tie.Need-loop-i-preserved invariant-loop decreases-loop
loop_again c =
    let in_loop = c.before.before.before.before.before.before in
    let l = in_loop.loop-i in
    let a = in_loop.args in
    let φ = second_variable a.inputs a.shift in
    let w = get_or a.gate.weights l.i (pos 0) in
    let h = in_loop.loop-i-test.true in (
      omega arith,
      stands_is (first_step a.negative φ a.gate (to_z w32 (of_z w32 a.right)) l.i (stands_line l.invariant.1)
          (c.variable_of-variable.ensures ∙ ap φ c.from.ensures)
          (read_back w32 c.signed-coefficient.type_inv (c.signed-coefficient.ensures ∙ ap (λ (z : ℤ). cond a.negative (neg_ℤ z) z) (small_back w (small in_loop)))))
          c.with_term-line.ensures,
    )

returns : tie.Need-returns invariant-loop decreases-loop
returns c =
    let l = c.loop-i in
    let a = c.args in
    let φ = second_variable a.inputs a.shift in
    let e : l.i ≡ a.gate.fanin = omega (arith, c.from-i-end.ensures) in
    stands_is
    (ap (λ (z : ℤ). first_terms a.negative φ a.gate z l.i) (to_z-of_z c.ranges.right)
    ∙ ap (first_terms a.negative φ a.gate a.right) e
    ∙ first_all a.negative φ a.gate a.right)
    l.invariant.1

pub feed_terms_spec : {M : Type 1} → statement M
feed_terms_spec =
    tie.close
    (tie.spec
    invariant-loop
    decreases-loop
    (λ c κs. search rules)
    (λ c κs. search rules)
    loop_holds
    element_copy_out_wide
    (λ c κs. search rules)
    (λ c κs. search rules)
    mul_signed
    element_copy_out_signed
    signed_requires
    with_term_requires
    add_i
    loop_less
    loop_again
    returns)
