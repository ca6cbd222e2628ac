-- Both lines of a gate hold exactly where y has the gate's bit, so all lines of a network hold exactly where the assignment fits it.
-- Assumes nothing.
use Rattle.std.specs.Prelude.{◌≡◌, refl, Bool, true, false, cond, List, [], ◌∷◌, ◌++◌, map, ◌↔◌, ℕ, suc, T, ℤ, pos, negsuc, neg_ℤ, ◌+ℤ◌, ◌-ℤ◌}
use Rattle.std.proofs.Common.{sym, ap, ◌∙◌, arith}
use Rattle.std.specs.Int.Signed.{le_z, non_neg}
use Rattle.basics.specs.IntegerLaws.{#, nat, ◌⊕◌, ◌⊖◌, minus, le_of, gt_of, of_le, of_gt, eq_of}
use Rattle.basics.specs.TestLaws.{is_true, is_false, T_is, T_isnt}
use Rattle.network.specs.Threshold.{Feed, negated, Gate, Assignment, sum, bit}
use Rattle.network.specs.SumLaws.{sum_negated}
use Rattle.network_equivalence.specs.Consistent.{BitsFrom}
use Rattle.question_theory.specs.Question.{holds, Solves, most, least, term, upper, lower, over_gate, gate_lines}

-- ---- sums
sum_append : (ρ : Assignment) (a b : List Feed) → sum ρ (a ++ b) ≡ sum ρ a +ℤ sum ρ b
unfolding sum
sum_append ρ [] b = eq_of (# (sum ρ b)) (nat 0 ⊕ # (sum ρ b)) (omega arith)
sum_append ρ (f ∷ a) b = rw (sum_append ρ a b) (eq_of (# x ⊕ (# (sum ρ a) ⊕ # (sum ρ b))) (# x ⊕ # (sum ρ a) ⊕ # (sum ρ b)) (omega arith))
  where
    x : ℤ
    x = cond (ρ f.signal) f.weight (pos 0)

sign : (w : ℤ) (b : Bool) → T (le_z (cond b w (pos 0)) (cond (non_neg w) w (pos 0))) × T (le_z (cond (non_neg w) (pos 0) w) (cond b w (pos 0)))
sign (pos n) true = (of_le (nat n) (nat n) (omega arith), of_le (nat 0) (nat n) (omega arith))
sign (pos n) false = (of_le (nat 0) (nat n) (omega arith), tt)
sign (negsuc n) true = (tt, of_le (# (negsuc n)) (# (negsuc n)) (omega arith))
sign (negsuc n) false = (tt, tt)

add_le : (a b c d : ℤ) → T (le_z a b) → T (le_z c d) → T (le_z (a +ℤ c) (b +ℤ d))
add_le a b c d h k = of_le (# a ⊕ # c) (# b ⊕ # d) (omega (arith, le_of (# a) (# b) h, le_of (# c) (# d) k))

-- a sum lies from m to M
sum_between : (ρ : Assignment) (fs : List Feed) → T (le_z (sum ρ fs) (most fs)) × T (le_z (least fs) (sum ρ fs))
unfolding sum most least
sum_between ρ [] = (tt, tt)
sum_between ρ (f ∷ fs) =
    let s = sign f.weight (ρ f.signal) in
    let r = sum_between ρ fs in
    let x = cond (ρ f.signal) f.weight (pos 0) in (
      add_le x (cond (non_neg f.weight) f.weight (pos 0)) (sum ρ fs) (most fs) s.0 r.0,
      add_le (cond (non_neg f.weight) (pos 0) f.weight) x (least fs) (sum ρ fs) s.1 r.1,
    )

-- ---- the two lines of a gate

-- with threshold t and sum s
two_lines : (t s M m : ℤ) → T (le_z s M) → T (le_z m s) → (y : Bool)
    → (T (le_z (pos 1 -ℤ t) (neg_ℤ s +ℤ (cond y (M -ℤ t +ℤ pos 1) (pos 0) +ℤ pos 0))) × T (le_z m (s +ℤ (cond y (m -ℤ t) (pos 0) +ℤ pos 0)))) ↔ (y ≡ le_z t s)
two_lines t s M m h k true = (
  λ p. sym (is_true (le_z t s) (of_le (# t) (# s) (omega (arith, le_of (# m) (# s ⊕ (# m ⊖ # t ⊕ nat 0)) p.1)))),
  λ e. let g = le_of (# t) (# s) (T_is (le_z t s) (sym e)) in (
    of_le (nat 1 ⊖ # t) (minus (# s) ⊕ (# M ⊖ # t ⊕ nat 1 ⊕ nat 0)) (omega (arith, le_of (# s) (# M) h)),
    of_le (# m) (# s ⊕ (# m ⊖ # t ⊕ nat 0)) (omega arith),
  ),
)
two_lines t s M m h k false = (
  λ p. sym (is_false (le_z t s) (of_gt (# t) (# s) (omega (arith, le_of (nat 1 ⊖ # t) (minus (# s) ⊕ (nat 0 ⊕ nat 0)) p.0)))),
  λ e. let g = gt_of (# t) (# s) (T_isnt (le_z t s) (sym e)) in (
    of_le (nat 1 ⊖ # t) (minus (# s) ⊕ (nat 0 ⊕ nat 0)) (omega arith),
    of_le (# m) (# s ⊕ (nat 0 ⊕ nat 0)) (omega (arith, le_of (# m) (# s) k)),
  ),
)

-- both lines of a gate hold exactly where y has the gate's bit
lines_bit : (ρ : Assignment) (y : ℕ) (g : Gate) → (T (holds ρ (upper y g)) × T (holds ρ (lower y g))) ↔ (ρ y ≡ bit ρ g)
unfolding holds bit upper lower sum
lines_bit ρ y g = rw (sum_append ρ (map negated g.feeds) _, sum_negated ρ g.feeds, sum_append ρ g.feeds _)
    (two_lines g.threshold (sum ρ g.feeds) (most g.feeds) (least g.feeds) (sum_between ρ g.feeds).0 (sum_between ρ g.feeds).1 (ρ y))

-- ---- the lines of a network
over_sum : (ρ : Assignment) (φ : ℕ → ℕ) (fs : List Feed) → sum ρ (map (λ f. term (φ f.signal) f.weight) fs) ≡ sum (λ s. ρ (φ s)) fs
unfolding sum
over_sum ρ φ [] = refl
over_sum ρ φ (f ∷ fs) = rw (over_sum ρ φ fs)

-- a gate over variables has the bit of the gate whose signals have the variables' bits
pub over_bit : (ρ : Assignment) (φ : ℕ → ℕ) (g : Gate) → bit ρ (over_gate φ g) ≡ bit (λ s. ρ (φ s)) g
unfolding bit over_gate
over_bit ρ φ g = ap (le_z g.threshold) (over_sum ρ φ g.feeds)

-- all lines of the gates hold exactly where each gate's signal has the gate's bit
pub lines_fit : (ρ : Assignment) (φ : ℕ → ℕ) (n : ℕ) (gs : List Gate) → Solves ρ (gate_lines φ n gs) ↔ BitsFrom (λ s. ρ (φ s)) n (map (bit (λ s. ρ (φ s))) gs)
unfolding gate_lines
lines_fit ρ φ n [] = (λ h. tt, λ h. tt)
lines_fit ρ φ n (g ∷ gs) =
    let own = lines_bit ρ (φ n) (over_gate φ g) in
    let rest = lines_fit ρ φ (suc n) gs in (
      λ h. (own.0 (h.0, h.1.0) ∙ over_bit ρ φ g, rest.0 h.1.1),
      λ h. let p = own.1 (h.0 ∙ sym (over_bit ρ φ g)) in (p.0, (p.1, rest.1 h.1)),
    )
