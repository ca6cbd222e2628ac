-- Laws of values put before others. Assumes nothing.
use Rattle.std.specs.Prelude.{◌≡◌, refl, List, [], ◌∷◌, ◌++◌, ℕ, ◌+◌, ◌-◌, ◌≤◌, length, take, drop}
use Rattle.std.specs.List.{copy_within}
use Rattle.std.proofs.Common.{arith, ap, ◌∙◌, sym, subst, append_assoc, length-take-le}
use Rattle.std.proofs.lemmas.List.{drop_all, append-nil}
use Rattle.std.proofs.Math.Seq.{drop-append_seam, take-append-add}
use Rattle.journal.specs.Parts.{kind_number}
use Rattle.journal.specs.declared.StepKind.{StepKind}
use Rattle.journal.specs.declared.StepKind.TheVariants.{Merge, Drop}

-- what stands after the first values, whatever they are
after_first : {A : Type 0} (n : ℕ) (xs ys : List A) → n ≤ length xs → drop n (take n xs ++ ys) ≡ ys
after_first n xs ys h = subst (λ (k : ℕ). drop k (take n xs ++ ys) ≡ ys) (length-take-le n xs h) (drop-append_seam (take n xs) ys)

-- the values that were moved up, and the front before them
pub put_before_others : {A : Type 0} (front old : List A) → length front ≤ length old
    → front ++ drop (length front) (copy_within old 0 (length old - length front) (length front)) ≡ take (length old) (front ++ old)
put_before_others {A} front old h =
    let kept : ℕ = length old - length front in
    let all : length old ≡ length front + kept = omega arith in
    let none : drop (length front + (kept - 0)) old ≡ [] = drop_all (length front + (kept - 0)) old (omega arith) in
    let less : kept - 0 ≡ kept = omega arith in
    ap (λ (l : List A). front ++ l) (ap (drop (length front)) (append_assoc (take (length front) old) _ _)
    ∙ after_first (length front) old _ h
    ∙ ap (λ (l : List A). take (kept - 0) old ++ l) none
    ∙ append-nil (take (kept - 0) old)
    ∙ ap (λ (k : ℕ). take k old) less)
    ∙ sym (ap (λ (k : ℕ). take k (front ++ old)) all ∙ take-append-add front old kept)

-- as many values as there were, by their number
pub as_many : {A : Type 0} (n : ℕ) (front old : List A) {new : List A} → length old ≡ n → new ≡ take (length old) (front ++ old) → new ≡ take n (front ++ old)
as_many n front old e h = h ∙ ap (λ (k : ℕ). take k (front ++ old)) e

-- the number that a kind stands at among the kinds
abbrev place_of : StepKind → ℕ
place_of k = denote.Enum.Declared.tag_of Rattle.journal.specs.contracts.StepKind.the_type k

place_is : (k : StepKind) → place_of k ≡ kind_number k
place_is Merge = refl
place_is Drop = refl

-- a kind before the others
pub kind_before : (k : StepKind) (old : List ℕ) {new : List ℕ} → length old ≡ 64 → new ≡ take (length old) (place_of k ∷ old)
    → new ≡ take 64 (kind_number k ∷ old)
kind_before k old e h = as_many 64 (place_of k ∷ []) old e h ∙ ap (λ (n : ℕ). take 64 (n ∷ old)) (place_is k)
