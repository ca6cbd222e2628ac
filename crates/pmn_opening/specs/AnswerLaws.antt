-- Laws of what the functions answer: what an answer leaves in the lent places. Assumes nothing.
use Rattle.std.specs.Prelude.{◌≡◌, List, ◌++◌, length}
use Rattle.std.proofs.Math.Path.{refl, sym, ap}
use Rattle.std.proofs.Common.{◌∙◌}
use Prim.Native.Nat.{ℕ, zero, suc}
use Rattle.std.proofs.Math.ListN.{drop}
use Rattle.basics.specs.Refusals.{Answer, accepted, refused, bind, code_of, stored}
use Rattle.basics.specs.RefusalLaws.{left_one}
use Rattle.pmn_opening.specs.Files.{length_of}
use Rattle.pmn_opening.specs.Places.{answer_of}

-- ---- answers
module _ {a b : Answer (List ℕ)} (e : a ≡ b) (lent out : List ℕ) where
  -- equal answers leave the same in bytes and the place of their length
  pub left_two : (code_of b ≡ code_of a) × ((stored b out ≡ stored a out) × (stored (length_of b) lent ≡ stored (length_of a) lent))
  left_two = (
    sym (ap code_of e),
    (sym (ap (λ (x : Answer (List ℕ)). stored x out) e), sym (ap (λ (x : Answer (List ℕ)). stored (length_of x) lent) e)),
  )

-- what a call leaves by its own answer, a function leaves whose answer is equal
pub same_two : {a b : Answer (List ℕ)} {k : ℕ} {after places : List ℕ} (out lent : List ℕ) → a ≡ b
    → (k ≡ code_of b) × ((after ≡ stored b out) × (places ≡ stored (length_of b) lent))
    → (k ≡ code_of a) × ((after ≡ stored a out) × (places ≡ stored (length_of a) lent))
same_two out lent e h = let l = left_two e lent out in (h.0 ∙ l.0, (h.1.0 ∙ l.1.0, h.1.1 ∙ l.1.1))

-- a refusal: its number, and everything as it was
pub refused_two : {a : Answer (List ℕ)} {k : ℕ} (out lent : List ℕ) → a ≡ refused k
    → (k ≡ code_of a) × ((out ≡ stored a out) × (lent ≡ stored (length_of a) lent))
unfolding code_of stored length_of
refused_two out lent e = left_two e lent out

-- a code that is not 0 is the answer, whatever follows it
pub bind_code : {A B : Type 0} (a : Answer A) (f : A → Answer B) {k : ℕ} → k ≡ code_of a → (k ≡ 0 → ⊥) → bind a f ≡ refused k
unfolding bind code_of
bind_code (accepted x) f e h = absurd (h e)
bind_code (refused j) f e h = ap refused (sym e)

-- a call's code and numbers: that code, and the numbers stored where it is 0
module _ (k : ℕ) (xs lent : List ℕ) where
  code_of_lem : k ≡ code_of (answer_of k xs)
  unfolding code_of answer_of
  code_of_lem = elim k as (λ n. n ≡ code_of (answer_of n xs)) [ zero ↦ refl | suc n ↦ refl ]

  pub put_places : k ≡ 0 → xs ++ drop (length xs) lent ≡ stored (answer_of k xs) lent
  unfolding stored answer_of
  put_places e = sym (ap (λ (n : ℕ). stored (answer_of n xs) lent) e)

  pub keep_places : (k ≡ 0 → ⊥) → lent ≡ stored (answer_of k xs) lent
  unfolding stored answer_of
  keep_places h = elim k as (λ n. (n ≡ 0 → ⊥) → lent ≡ stored (answer_of n xs) lent) [ zero ↦ λ z. absurd (z refl) | suc n ↦ λ z. refl ] h

  -- the function's answer, where it is that of the call
  pub placed : {a : Answer (List ℕ)} {r : ℕ} {after : List ℕ} → a ≡ answer_of k xs → (r ≡ k) × (after ≡ stored (answer_of k xs) lent)
      → (r ≡ code_of a) × (after ≡ stored a lent)
  placed e h = let l = left_one e lent in (h.0 ∙ code_of_lem ∙ l.0, h.1 ∙ l.1)
