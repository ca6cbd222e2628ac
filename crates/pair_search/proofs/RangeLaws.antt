-- Which candidates a setting rules out with the one that it was seen to rule out. Assumes nothing.
use mathlib.Core.Path.{◌≡◌, sym, ◌∙◌, subst}
use mathlib.Core.Bool.{Bool, true, false, not, cond, ◌&&◌, ◌||◌}
use Prim.Native.Nat.{ℕ, ◌+◌, ◌-◌, ◌*◌, ◌≤◌}
use native.Mathlib.Nat.{mul-le-mul, le_refl}
use native.Mathlib.Omega.{arith}
use lib.Dec.{T}
use lib.IntN.{ℤ, pos, ◌+ℤ◌, ◌-ℤ◌}
use lib.Signed.{le_z}
use Rattle.basics.specs.IntegerLaws.{hi, lo, #, nat, ◌⊕◌, ◌⊖◌, ◌⊙◌, law, le_yes, le_no, of_gt}
use Rattle.basics.specs.TestLaws.{is_true, is_false, T_and, or_case}
use Rattle.fold_theory.specs.Aligned.{mix, composed_bit, mixed_threshold, clears}
use Rattle.fold_theory.specs.declared.Thresholds.{Thresholds}
use Rattle.pair_search.specs.Search.{bounds_below, bounds_above}

-- an order, d times
times : (d : ℕ) (x y : ℤ) → le_z x y ≡ true → d * (hi x + lo y) ≤ d * (hi y + lo x)
times d x y e = mul-le-mul (le_refl d) (le_yes x y e)

times_less : (d : ℕ) (x y : ℤ) → le_z x y ≡ false → d * (hi y + lo x) ≤ d * (hi x + lo y)
times_less d x y e = mul-le-mul (le_refl d) (let l = le_no x y e in omega arith)

module _ (t : Thresholds) (su sv : ℤ) where
  abbrev own : ℤ
  own = t.own

  abbrev on : ℤ
  on = t.on

  abbrev one : Bool
  one = composed_bit t su sv

  -- the merged gate's sum and its threshold
  abbrev sum : ℕ → ℕ → ℤ
  sum k l = mix k l su sv

  abbrev least : ℕ → ℕ → ℤ
  least k l = mix k l own on +ℤ pos t.board.on

  abbrev most : ℕ → ℕ → ℤ
  most k l = mix k l own on -ℤ pos t.board.off

  where_on_lem : (k l : ℕ) → one ≡ true → clears t k l su sv ≡ le_z (least k l) (sum k l)
  unfolding clears mixed_threshold
  where_on_lem k l e = rw e

  where_off_lem : (k l : ℕ) → one ≡ false → clears t k l su sv ≡ le_z (sum k l) (most k l)
  unfolding clears mixed_threshold
  where_off_lem k l e = rw e

  -- where the voter is 1 the composed pair has the bit of v's sum with `on`
  voted : le_z own su ≡ true → one ≡ le_z on sv
  unfolding composed_bit
  voted e = rw e

  -- ---- the same k with a greater l
  with_l : (k l d : ℕ) → le_z on sv ≡ true → one ≡ false → clears t k l su sv ≡ false → clears t k (l + d) su sv ≡ false
  with_l k l d reached off e =
      let seen = le_no (sum k l) (most k l) (sym (where_off_lem k l off) ∙ e) in
      let p = law (k ⊙ # su ⊕ l ⊙ # sv) in
      let q = law (k ⊙ # own ⊕ l ⊙ # on ⊖ nat t.board.off) in
      let more = times d on sv reached in
      let above = of_gt (k ⊙ # su ⊕ (l + d) ⊙ # sv) (k ⊙ # own ⊕ (l + d) ⊙ # on ⊖ nat t.board.off) (omega (arith, p, q, more, seen)) in
      where_off_lem k (l + d) off ∙ is_false (le_z (sum k (l + d)) (most k (l + d))) above

  pub greater_l : (k l m : ℕ) {b : Bool} → b ≡ (bounds_below t su sv && not (clears t k l su sv)) → T b → l ≤ m → clears t k m su sv ≡ false
  unfolding bounds_below
  greater_l k l m {b} e h less =
      let parts = T_and (le_z on sv && not one) (not (clears t k l su sv)) (subst T e h) in
      let bound = T_and (le_z on sv) (not one) parts.0 in
      let same : l + (m - l) ≡ m = omega arith in
      subst (λ (n : ℕ). clears t k n su sv ≡ false) same
      (with_l k l (m - l) (is_true (le_z on sv) bound.0) (is_false one bound.1) (is_false (clears t k l su sv) parts.1))

  -- ---- the same k + l with a greater k
  voter_on : (k l d : ℕ) → le_z own su ≡ true → one ≡ false → clears t k (l + d) su sv ≡ false → clears t (k + d) l su sv ≡ false
  voter_on k l d vote off e =
      let seen = le_no (sum k (l + d)) (most k (l + d)) (sym (where_off_lem k (l + d) off) ∙ e) in
      let p = law (k ⊙ # su ⊕ (l + d) ⊙ # sv) in
      let q = law (k ⊙ # own ⊕ (l + d) ⊙ # on ⊖ nat t.board.off) in
      let more = times d own su vote in
      let less = times_less d on sv (sym (voted vote) ∙ off) in
      let above = of_gt ((k + d) ⊙ # su ⊕ l ⊙ # sv) ((k + d) ⊙ # own ⊕ l ⊙ # on ⊖ nat t.board.off) (omega (arith, p, q, more, less, seen)) in
      where_off_lem (k + d) l off ∙ is_false (le_z (sum (k + d) l) (most (k + d) l)) above

  voter_off : (k l d : ℕ) → le_z own su ≡ false → one ≡ true → le_z on sv ≡ true → clears t k (l + d) su sv ≡ false → clears t (k + d) l su sv ≡ false
  voter_off k l d vote lit reached e =
      let seen = le_no (least k (l + d)) (sum k (l + d)) (sym (where_on_lem k (l + d) lit) ∙ e) in
      let p = law (k ⊙ # su ⊕ (l + d) ⊙ # sv) in
      let q = law (k ⊙ # own ⊕ (l + d) ⊙ # on ⊕ nat t.board.on) in
      let less = times_less d own su vote in
      let more = times d on sv reached in
      let above = of_gt ((k + d) ⊙ # own ⊕ l ⊙ # on ⊕ nat t.board.on) ((k + d) ⊙ # su ⊕ l ⊙ # sv) (omega (arith, p, q, more, less, seen)) in
      where_on_lem (k + d) l lit ∙ is_false (le_z (least (k + d) l) (sum (k + d) l)) above

  with_k : (k l d : ℕ) → T (bounds_above t su sv) → clears t k (l + d) su sv ≡ false → clears t (k + d) l su sv ≡ false
  unfolding bounds_above
  with_k k l d b e =
      or_case (le_z own su && not one) (not (le_z own su) && (one && le_z on sv)) b
      (λ h.
      let parts = T_and (le_z own su) (not one) h in
      voter_on k l d (is_true (le_z own su) parts.0) (is_false one parts.1) e)
      (λ h.
      let parts = T_and (not (le_z own su)) (one && le_z on sv) h in
      let rest = T_and one (le_z on sv) parts.1 in
      voter_off k l d (is_false (le_z own su) parts.0) (is_true one rest.0) (is_true (le_z on sv) rest.1) e)

  pub greater_k : (s k j : ℕ) {b : Bool} → b ≡ bounds_above t su sv → T b → k ≤ j → j ≤ s → clears t k (s - k) su sv ≡ false → clears t j (s - j) su sv ≡ false
  greater_k s k j {b} e h less in_sum out =
      let before : s - j + (j - k) ≡ s - k = omega arith in
      let after : k + (j - k) ≡ j = omega arith in
      subst (λ (n : ℕ). clears t n (s - j) su sv ≡ false) after
      (with_k k (s - j) (j - k) (subst T e h) (subst (λ (n : ℕ). clears t k n su sv ≡ false) (sym before) out))
