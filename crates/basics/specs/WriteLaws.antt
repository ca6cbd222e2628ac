-- What a call leaves that was lent the part of a slice from a place on, as `f(&mut out[a..])`. Assumes nothing.
use Rattle.std.specs.Prelude.{◌≡◌, List, [], ◌∷◌, ◌++◌, ℕ, suc, ◌+◌, ◌-◌, ◌<◌, ◌≤◌, length, take, drop, get_or, set}
use Rattle.std.proofs.Common.{sym, ap, ◌∙◌, subst, append_assoc, append-nil, le_refl, add-one, arith, length-append, length-drop, drop_of_length-le, take_all, take_at, drop_at, drop-drop, drop-cons}
use Rattle.std.proofs.lemmas.List.{set_at}
use Rattle.std.proofs.lemmas.List.Edits.{sets-eq}
use Rattle.std.proofs.Math.Seq.{append_snoc}
use borrow.Rule.Slice.PartMut.{put_mid}

tail_mid : (a : ℕ) (xs : List ℕ) → take (length xs - a) (drop a xs) ≡ drop a xs
tail_mid a xs = take_all (length xs - a) (drop a xs) (subst (λ (n : ℕ). n ≤ length xs - a) (sym (length-drop a xs)) (le_refl _))

-- how long the lent part is
pub tail_length : (a : ℕ) (xs : List ℕ) → length (take (length xs - a) (drop a xs)) ≡ length xs - a
tail_length a xs = ap length (tail_mid a xs) ∙ length-drop a xs

tail_put : (a : ℕ) (xs ys : List ℕ) → a ≤ length xs → put_mid a (length xs - a) xs ys ≡ take a xs ++ ys
tail_put a xs ys h =
    let few = subst (λ (n : ℕ). n ≤ length xs - a) (sym (length-drop a xs)) (le_refl _) in
    ap (λ (r : List ℕ). take a xs ++ (ys ++ r)) (drop_of_length-le (drop a xs) {i = length xs - a} few)
    ∙ ap (λ (r : List ℕ). take a xs ++ r) (append-nil ys)

-- the first byte, stored
pub first_put : (xs : List ℕ) (b : ℕ) → 1 ≤ length xs → set xs 0 b ≡ (b ∷ []) ++ drop 1 xs
first_put xs b h = sets-eq (b ∷ []) xs 0 h

-- the byte after the bytes p, stored: now p and that byte stand at the front
pub store_on : (x₀ xs p : List ℕ) (b j : ℕ) → xs ≡ p ++ drop j x₀ → length p ≡ j → j < length x₀ → set xs j b ≡ (p ++ (b ∷ [])) ++ drop (j + 1) x₀
store_on x₀ xs p b j e ep h =
    ap (λ (l : List ℕ). set l j b) (e ∙ ap (λ (l : List ℕ). p ++ l) (drop-cons x₀ j 0 h))
    ∙ set_at p (get_or x₀ j 0) (drop (suc j) x₀) b j ep
    ∙ sym (append_snoc p b (drop (suc j) x₀))
    ∙ ap (λ (k : ℕ). (p ++ (b ∷ [])) ++ drop k x₀) (sym (add-one j))

-- the bytes p, and after them what stood there at first; the call put n bytes b at the front of the part from a on: now p and b stand at
-- the front
pub write_on : (x₀ xs ys p b : List ℕ) (a n : ℕ) → xs ≡ p ++ drop a x₀ → length p ≡ a → length b ≡ n → a + n ≤ length x₀
    → ys ≡ b ++ drop n (take (length xs - a) (drop a xs))
    → put_mid a (length xs - a) xs ys ≡ (p ++ b) ++ drop (a + n) x₀
write_on x₀ xs ys p b a n e ep eb h ey =
    let len : length xs ≡ length x₀ = ap length e ∙ length-append p (drop a x₀) ∙ ap (λ (k : ℕ). length p + k) (length-drop a x₀) ∙ omega arith in
    let ha : a ≤ length xs = omega arith in
    let d : drop a xs ≡ drop a x₀ = ap (drop a) e ∙ drop_at p (drop a x₀) a ep in
    let y : ys ≡ b ++ drop (a + n) x₀ = ey ∙ ap (λ (r : List ℕ). b ++ drop n r) (tail_mid a xs ∙ d) ∙ ap (λ (r : List ℕ). b ++ r) (drop-drop n a x₀) in
    let t : take a xs ≡ p = ap (take a) e ∙ take_at p (drop a x₀) a ep in
    tail_put a xs ys ha ∙ ap (λ (r : List ℕ). r ++ ys) t ∙ ap (λ (r : List ℕ). p ++ r) y ∙ sym (append_assoc p b (drop (a + n) x₀))
