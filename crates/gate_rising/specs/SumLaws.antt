-- Laws of the sums of some of a list of weights: their size, and that of the members of their list. Assumes nothing.
use Rattle.std.proofs.Common.{sym, subst, arith, leb→le, le→leb, get_or-drop}
use Rattle.std.specs.Prelude.{Bool, List, [], ◌∷◌, ℕ, suc, ◌+◌, ◌*◌, ◌≤◌, T, leb, ℤ, pos, nat_abs, ◌+ℤ◌, length, drop}
use Rattle.basics.specs.Lists.{below}
use Rattle.basics.specs.ListLaws.{below_at}
use Rattle.basics.specs.SizeLaws.{SizesWithin, size_add}
use Rattle.basics.specs.TestLaws.{and_T}
use Rattle.gate_rising.specs.Sums.{every_sum}
use Rattle.gate_rising.specs.Tables.{member, SumsWithin, Listed}

-- no sum is above the weights' sizes together
every_small : (p : ℤ → Bool) (ws : List ℤ) → SizesWithin 1000000 ws → ((z : ℤ) → nat_abs z ≤ 1000000 * length ws → T (p z)) → T (every_sum p ws)
unfolding every_sum
every_small p [] s h = h (pos 0) (omega arith)
every_small p (w ∷ ws) s h = and_T (every_sum p ws) (every_sum (λ z. p (w +ℤ z)) ws)
    (every_small p ws (λ i. s (suc i)) (λ z k. h z (omega arith)))
    (every_small (λ z. p (w +ℤ z)) ws (λ i. s (suc i)) (λ z k. h (w +ℤ z) (omega (arith, size_add w z, s 0))))

-- the size of a member
pub listed_small : (ws : List ℤ) (n : ℕ) (sums : List ℤ) → SizesWithin 1000000 ws → Listed ws n sums → SumsWithin (1000000 * length ws) n sums
listed_small ws n sums s l i k =
    let p : ℤ → Bool = λ z. leb (nat_abs z) (1000000 * length ws) in
    let t : T (below n (λ j. p (member sums n j))) = subst T (sym (l p)) (every_small p ws s (λ z h. le→leb (nat_abs z) (1000000 * length ws) h)) in
    leb→le (nat_abs (member sums n i)) (1000000 * length ws) (below_at n (λ j. p (member sums n j)) t i k)

-- the weights from k on are as small
pub drop_small : (k : ℕ) (weights : List ℤ) → SizesWithin 1000000 weights → SizesWithin 1000000 (drop k weights)
drop_small k weights h i = rw get_or-drop (h (k + i))
