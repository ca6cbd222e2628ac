-- The loop's invariant: the sum is that of the first i feeds.
use mathlib.Core.Path.{◌≡◌, refl, sym, ap, ◌∙◌}
use mathlib.Core.Bool.{Bool, cond}
use mathlib.Core.Logic.{⊎_elim}
use Prim.Native.Nat.{◌+◌, ◌-◌, ◌≤◌, ◌<◌}
use native.Mathlib.Omega.{arith}
use lib.IntN.{ℤ, pos, nat_abs, ◌+ℤ◌}
use lib.ListN.{get_or}
use borrow.Author.Rules.{rules}
use Rattle.network.specs.Record.{gate_in}
use Rattle.network.specs.Limits.{scale}
use Rattle.question_terms.specs.Terms.{side_part}
use Rattle.question_terms.specs.TermLaws.{sided_of, sided_none, sided_more, scaled_at}
use Rattle.basics.specs.SignLaws.{from_sign}
use Rattle.question_terms.specs.SumLaws.{small_back, Summed, summed_is, add_fits, summed_more, summed_same}
use Rattle.question_terms.proofs.unchecked.sum_of.Statement.{statement}
use Rattle.question_terms.proofs.unchecked.sum_of.Tie as tie

abbrev invariant-loop : tie.invariant-loop-i
invariant-loop above gate sum₀ i₀ i-end sum i = (i ≤ i-end) × Summed sum (sided_of above gate i) i

abbrev decreases-loop : tie.decreases-loop-i
decreases-loop above gate sum₀ i₀ i-end sum i = i-end - i

-- the weight of the loop's feed
abbrev weight : tie.In-loop-i invariant-loop decreases-loop → ℤ
weight c = get_or c.before.before.before.args.gate.weights c.before.loop-i.i (pos 0)

-- the number of the loop's feed is below the gate's count
below : (c : tie.In-loop-i invariant-loop decreases-loop) → (c.loop-i.i < c.args.gate.fanin) × (c.loop-i.i < 16)
below c = omega (arith, c.from-i-end.ensures, c.requires.few)

-- its weight is small
small : (c : tie.In-loop-i invariant-loop decreases-loop) → nat_abs (weight c) ≤ scale
small c = scaled_at c.args.gate c.requires c.loop-i.i (below c).0

loop_holds : tie.Need-loop-i-init invariant-loop decreases-loop
loop_holds c = (omega arith, summed_is (sym (sided_none c.args.above c.args.gate)) (record { holds = refl; small = omega arith }))

mul_weight : tie.Need-offset_bounds-gate-i invariant-loop decreases-loop
mul_weight c = let h = below c in record { fits = omega arith }

element_copy_out_weight : tie.Need-bounds-gate-i invariant-loop decreases-loop
element_copy_out_weight c = (below c).1

add_sum : tie.Need-overflow_add-sum invariant-loop decreases-loop
add_sum c = let in_loop = c.before.before in add_fits in_loop.loop-i.invariant.1 (weight in_loop) (small in_loop) (below in_loop).1

add_i : tie.Need-overflow_step-i invariant-loop decreases-loop
add_i c = let h = below c.before.before in record { fits = omega arith }

loop_less : tie.Need-loop-i-smaller invariant-loop decreases-loop
loop_less c = let h = c.loop-i-test.true in omega arith

-- the sum with or without the feed's weight
turn : (c : tie.Joined-weight-above invariant-loop decreases-loop) → let i = c.loop-i.i in
    Summed c.if-weight-above.sum-bits (sided_of c.args.above c.args.gate i +ℤ side_part c.args.above (weight c.before.before)) (i + 1)
unfolding side_part
turn c =
    let in_loop = c.before.before in
    let w = weight in_loop in
    let sofar = in_loop.loop-i.invariant.1 in
    let back = small_back w (small in_loop) in
    ⊎_elim
    (λ k. summed_more sofar w (small in_loop) (below in_loop).1 k.sum-is-bits (ap (λ (b : Bool). cond b w (pos 0)) (rw (back, from_sign w) at k.if-weight-above.true)))
    (λ k. summed_same sofar w (small in_loop) (below in_loop).1 k.sum-is-bits (ap (λ (b : Bool). cond b w (pos 0)) (rw (back, from_sign w) at k.if-weight-above.false)))
    c.if-weight-above.branch-raw

loop_again : tie.Need-loop-i-preserved invariant-loop decreases-loop
loop_again c =
    let h = c.loop-i-test.true in (
      omega arith,
      summed_is (sided_more c.args.above c.args.gate c.loop-i.i)
          (turn c),
    )

returns : tie.Need-returns invariant-loop decreases-loop
unfolding gate_in
returns c =
    let l = c.loop-i in
    let e : l.i ≡ c.args.gate.fanin = omega (arith, c.from-i-end.ensures) in
    l.invariant.1.holds ∙ ap (sided_of c.args.above c.args.gate) e

pub sum_of_spec : {M : Type 1} → statement M
sum_of_spec =
    tie.close
    (tie.spec
    invariant-loop
    decreases-loop
    (λ c κs. search rules)
    loop_holds
    mul_weight
    element_copy_out_weight
    add_sum
    add_i
    loop_less
    loop_again
    returns)
