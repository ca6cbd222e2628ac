-- Laws of the sums of some of a list of weights: joined lists, weights of 0; and of the margins of version 1. Assumes nothing.
use Rattle.std.specs.Prelude.{◌≡◌, refl, Bool, true, false, ◌&&◌, List, [], ◌∷◌, ◌++◌, T, ℤ, pos, ◌+ℤ◌, ◌-ℤ◌}
use Rattle.std.proofs.Common.{sym, ap, ap₂, ◌∙◌, arith}
use Rattle.std.proofs.Math.Path.{fun_ext}
use Rattle.std.proofs.Math.IntN.{+ℤ_assoc, +ℤ_idl}
use Rattle.std.specs.Int.Signed.{le_z}
use Rattle.basics.specs.IntegerLaws.{#, nat, ◌⊕◌, ◌⊖◌, of_le, gt_of}
use Rattle.basics.specs.TestLaws.{is_true, and_T, or_T, T_or, test_case}
use Rattle.gate_rising.specs.Sums.{every_sum}
use Rattle.gate_margins.specs.Sums.{apart, outside}

-- ---- every sum

-- one test for another that says the same
every_same : (p q : ℤ → Bool) (ws : List ℤ) → ((z : ℤ) → p z ≡ q z) → every_sum p ws ≡ every_sum q ws
every_same p q ws h = ap (λ (r : ℤ → Bool). every_sum r ws) (fun_ext h)

-- what holds of every number holds of every sum
every_true : (p : ℤ → Bool) (ws : List ℤ) → ((z : ℤ) → T (p z)) → T (every_sum p ws)
unfolding every_sum
every_true p [] h = h (pos 0)
every_true p (w ∷ ws) h = and_T (every_sum p ws) (every_sum (λ z. p (w +ℤ z)) ws) (every_true p ws h) (every_true (λ z. p (w +ℤ z)) ws (λ z. h (w +ℤ z)))

-- the sums of two lists together
pub every_append : (p : ℤ → Bool) (xs ys : List ℤ) → every_sum p (xs ++ ys) ≡ every_sum (λ x. every_sum (λ y. p (x +ℤ y)) ys) xs
unfolding every_sum
every_append p [] ys = every_same p (λ y. p (pos 0 +ℤ y)) ys (λ z. ap p (sym (+ℤ_idl z)))
every_append p (w ∷ xs) ys = ap₂ ◌&&◌ (every_append p xs ys)
    (every_append (λ z. p (w +ℤ z)) xs ys ∙ every_same (λ x. every_sum (λ y. p (w +ℤ (x +ℤ y))) ys) (λ x. every_sum (λ y. p ((w +ℤ x) +ℤ y)) ys) xs
    (λ x. every_same (λ y. p (w +ℤ (x +ℤ y))) (λ y. p ((w +ℤ x) +ℤ y)) ys (λ y. ap p (sym (+ℤ_assoc w x y)))))

and_same : (b : Bool) → b && b ≡ b
and_same true = refl
and_same false = refl

-- a weight of 0 makes no other sums
pub every_zero : (p : ℤ → Bool) (ws : List ℤ) → every_sum p (pos 0 ∷ ws) ≡ every_sum p ws
unfolding every_sum
every_zero p ws = ap (λ (b : Bool). every_sum p ws && b) (every_same (λ z. p (pos 0 +ℤ z)) p ws (λ z. ap p (+ℤ_idl z))) ∙ and_same (every_sum p ws)

-- ---- the margins of version 1

-- an integer is T or more, or T − 1 or less
pub outside_always : (threshold z : ℤ) → T (outside 0 1 threshold z)
unfolding outside apart
outside_always threshold z = test_case (le_z (threshold +ℤ pos 0) z)
    (λ t. T_or (le_z (threshold +ℤ pos 0) z) (le_z z (threshold -ℤ pos 1)) t)
    (λ t. or_T (le_z (threshold +ℤ pos 0) z) (le_z z (threshold -ℤ pos 1))
    (of_le (# z) (# threshold ⊖ nat 1) (omega (arith, gt_of (# threshold ⊕ nat 0) (# z) t))))

-- no sum can break the margins 0 and 1
pub margins_always : (threshold : ℤ) (ws : List ℤ) → every_sum (outside 0 1 threshold) ws ≡ true
margins_always threshold ws = is_true (every_sum (outside 0 1 threshold) ws) (every_true (outside 0 1 threshold) ws (outside_always threshold))
