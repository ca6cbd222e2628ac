-- Each turn gives one setting more its sums. Assumes nothing.
use Rattle.std.proofs.Common.{◌≡◌, ◌∙◌, List, ℕ, ◌+◌, ◌<◌, ◌≤◌, arith, get_or, set, to_z, of_z, FitsSigned}
use Rattle.std.specs.Prelude.{ℤ, pos, nat_abs, ◌+ℤ◌}
use Rattle.std.specs.Int.{w32}
use Rattle.basics.specs.SizeLaws.{SizesWithin, size_add, size_fits}
use Rattle.gate_sums.specs.Tables.{Sums}
use Rattle.gate_sums.specs.SumLaws.{DoubledSums, doubled_sums, sums_more, held}
use Rattle.gate_sums.proofs.unchecked.extend.Goals as goal

abbrev as_held : ℤ → ℤ
as_held z = to_z w32 (of_z w32 z)

-- a place of a table and a weight, as the machine adds them
module _ (x w : ℤ) (x_small : nat_abs x ≤ 8000000) (w_small : nat_abs w ≤ 1000000) where
  small : nat_abs (x +ℤ w) ≤ 9000000
  small = omega (arith, size_add x w)

  sum_fits : FitsSigned w32 (as_held x +ℤ as_held w)
  sum_fits = rw (held x (omega arith), held w (omega arith)) (size_fits w32 (x +ℤ w) (omega (arith, small)))

  sum_held : as_held (as_held x +ℤ as_held w) ≡ x +ℤ w
  sum_held = rw (held x (omega arith), held w (omega arith)) (held (x +ℤ w) (omega (arith, small)))

module _ {weights sums : List ℤ} {n bit j : ℕ} (d : DoubledSums weights sums bit n j) (small : SizesWithin 1000000 weights) where
  low_fits : FitsSigned w32 (as_held (get_or sums j (pos 0)) +ℤ as_held (get_or weights bit (pos 0)))
  low_fits = sum_fits (get_or sums j (pos 0)) (get_or weights bit (pos 0)) d.low_small (small bit)

  high_fits : FitsSigned w32 (as_held (get_or sums (256 + j) (pos 0)) +ℤ as_held (get_or weights (8 + bit) (pos 0)))
  high_fits = sum_fits (get_or sums (256 + j) (pos 0)) (get_or weights (8 + bit) (pos 0)) d.high_small (small (8 + bit))

  more : n + j < 256 → Sums weights (n + j) sums → {i : ℕ} → i ≡ n + j + 1 → Sums weights i
      (set (set sums (n + j) (as_held (as_held (get_or sums j (pos 0)) +ℤ as_held (get_or weights bit (pos 0))))) (256 + (n + j))
      (as_held (as_held (get_or sums (256 + j) (pos 0)) +ℤ as_held (get_or weights (8 + bit) (pos 0)))))
  more h t e = rw e (sums_more t h _ _
      (sum_held (get_or sums j (pos 0)) (get_or weights bit (pos 0)) d.low_small (small bit) ∙ d.low)
      (sum_held (get_or sums (256 + j) (pos 0)) (get_or weights (8 + bit) (pos 0)) d.high_small (small (8 + bit)) ∙ d.high))

pub overflow_add-x : goal.overflow_add-x
overflow_add-x c =
    let l = c.loop-j in
    low_fits (doubled_sums c.args.bit l.j c.settings-filled.ensures c.loop-j-test.true (omega arith) c.requires.sizes_within l.invariant.part)
    c.requires.sizes_within

pub overflow_add-y-in-loop-j : goal.overflow_add-y-in-loop-j
overflow_add-y-in-loop-j c =
    let l = c.loop-j in
    high_fits (doubled_sums c.args.bit l.j c.settings-filled.ensures c.loop-j-test.true (omega arith) c.requires.sizes_within l.invariant.part)
    c.requires.sizes_within

pub loop-j-preserved : goal.loop-j-preserved
loop-j-preserved c =
    let l = c.loop-j in
    let small = c.requires.sizes_within in
    record {
      few = l.invariant.few;
      part = more (doubled_sums c.args.bit l.j c.settings-filled.ensures c.loop-j-test.true (omega arith) small l.invariant.part) small
          (omega arith) l.invariant.part (omega arith);
    }
