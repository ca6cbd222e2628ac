-- The walk along two rising lists from two corners: the members that were passed make no sum between floor and ceiling. Assumes nothing.
use mathlib.Core.Path.{◌≡◌, refl, subst}
use mathlib.Core.Bool.{Bool, true, false, cond, ◌&&◌}
use mathlib.Core.Logic.{◌⊎◌, inl, inr}
use Prim.Native.Nat.{ℕ, ◌+◌, ◌-◌, ◌≤◌, ◌<◌}
use native.Mathlib.Decide.{dec_lt}
use native.Mathlib.Omega.{arith}
use lib.Dec.{T}
use lib.IntN.{ℤ, ◌+ℤ◌}
use lib.Signed.{le_z}
use Rattle.basics.specs.Lists.{below}
use Rattle.basics.specs.ListLaws.{below_at, at_below}
use Rattle.basics.specs.IntegerLaws.{#, ◌⊕◌, of_le, le_of}
use Rattle.basics.specs.TestLaws.{is_true, T_is, T_isnt, T_or, or_T, or_second}
use Rattle.gate_rising.specs.Tables.{AtMost}
use Rattle.gate_margins.specs.Sums.{apart}

module _ (f h : ℕ → ℤ) (n m : ℕ) (floor ceiling : ℤ) where
  -- the sum of two members is not between
  abbrev Clear : ℕ → ℕ → Type 0
  Clear x y = T (apart floor ceiling (f x +ℤ h y))

  -- members i to p - 1 and q to j - 1 are left
  pub record Walk (i j p q : ℕ) : Type 0 where
    i_few : i ≤ n
    pub j_few : j ≤ m
    pub p_few : p ≤ n
    q_few : q ≤ m
    low_rows : (x y : ℕ) → x < i → y < m → Clear x y
    high_rows : (x y : ℕ) → p ≤ x → x < n → y < m → Clear x y
    low_columns : (x y : ℕ) → x < n → y < q → Clear x y
    high_columns : (x y : ℕ) → x < n → j ≤ y → y < m → Clear x y

  pub walk_none : Walk 0 m n 0
  walk_none = record {
    i_few = omega arith;
    j_few = omega arith;
    p_few = omega arith;
    q_few = omega arith;
    low_rows = λ x y k l. absurd (omega arith);
    high_rows = λ x y k l r. absurd (omega arith);
    low_columns = λ x y k l. absurd (omega arith);
    high_columns = λ x y k l r. absurd (omega arith);
  }

  -- a sum is clear if it is at least a sum that reaches the ceiling, or at most one that does not pass the floor
  from_high : (x y a b : ℕ) → T (le_z ceiling (f a +ℤ h b)) → AtMost (f a) (f x) → AtMost (h b) (h y) → Clear x y
  unfolding apart
  from_high x y a b t k l = T_or (le_z ceiling (f x +ℤ h y)) (le_z (f x +ℤ h y) floor)
      (of_le (# ceiling) (# (f x) ⊕ # (h y)) (omega (arith, le_of (# ceiling) (# (f a) ⊕ # (h b)) t)))

  from_low : (x y a b : ℕ) → Clear a b → le_z ceiling (f a +ℤ h b) ≡ false → AtMost (f x) (f a) → AtMost (h y) (h b) → Clear x y
  unfolding apart
  from_low x y a b t e k l =
      let s : T (le_z (f a +ℤ h b) floor) = or_second (le_z ceiling (f a +ℤ h b)) (le_z (f a +ℤ h b) floor) (T_isnt _ e) t in
      or_T (le_z ceiling (f x +ℤ h y)) (le_z (f x +ℤ h y) floor) (of_le (# (f x) ⊕ # (h y)) (# floor) (omega (arith, le_of (# (f a) ⊕ # (h b)) (# floor) s)))

  module _ (f_rises : (i j : ℕ) → i ≤ j → j < n → AtMost (f i) (f j)) (h_rises : (i j : ℕ) → i ≤ j → j < m → AtMost (h i) (h j))
      (i j p q : ℕ) (s : Walk i j p q) where
    -- the lowest row and the highest column
    pub upper_turn : i < n → 0 < j → Clear i (j - 1) → (r : ℕ) → r ≡ cond (le_z ceiling (f i +ℤ h (j - 1))) 1 0 → Walk (i + (1 - r)) (j - r) p q
    upper_turn k l t r = elim (le_z ceiling (f i +ℤ h (j - 1))) as (λ b. le_z ceiling (f i +ℤ h (j - 1)) ≡ b → r ≡ cond b 1 0 → Walk (i + (1 - r)) (j - r) p q) [
      | true ↦ λ e z. rw (z, let o : i + (1 - 1) ≡ i = omega arith in o) (record {
        i_few = s.i_few;
        j_few = omega (arith, s.j_few);
        p_few = s.p_few;
        q_few = s.q_few;
        low_rows = s.low_rows;
        high_rows = s.high_rows;
        low_columns = s.low_columns;
        high_columns = λ x y a b c. elim (dec_lt y j) as (λ d. Clear x y) [
          | no d ↦ s.high_columns x y a (omega arith) c
          | yes d ↦ elim (dec_lt x i) as (λ d. Clear x y) [
            | yes g ↦ s.low_rows x y g c
            | no g ↦ from_high x y i (j - 1) (T_is _ e) (f_rises i x (omega arith) a) (h_rises (j - 1) y (omega arith) c)
          ]
        ];
      })
      | false ↦ λ e z. rw (z, let o : i + (1 - 0) ≡ i + 1 = omega arith in o, let o : j - 0 ≡ j = omega arith in o) (record {
        i_few = omega arith;
        j_few = s.j_few;
        p_few = s.p_few;
        q_few = s.q_few;
        low_rows = λ x y a b. elim (dec_lt x i) as (λ d. Clear x y) [
          | yes d ↦ s.low_rows x y d b
          | no d ↦ elim (dec_lt y j) as (λ d. Clear x y) [
            | no g ↦ s.high_columns x y (omega arith) (omega arith) b
            | yes g ↦ from_low x y i (j - 1) t e (f_rises x i (omega arith) k) (h_rises y (j - 1) (omega arith) (omega (arith, s.j_few)))
          ]
        ];
        high_rows = s.high_rows;
        low_columns = s.low_columns;
        high_columns = s.high_columns;
      })
    ] refl

    -- the highest row and the lowest column
    pub lower_turn : 0 < p → q < m → Clear (p - 1) q → (r : ℕ) → r ≡ cond (le_z ceiling (f (p - 1) +ℤ h q)) 1 0 → Walk i j (p - r) (q + (1 - r))
    lower_turn k l t r = elim (le_z ceiling (f (p - 1) +ℤ h q)) as (λ b. le_z ceiling (f (p - 1) +ℤ h q) ≡ b → r ≡ cond b 1 0 → Walk i j (p - r) (q + (1 - r))) [
      | true ↦ λ e z. rw (z, let o : q + (1 - 1) ≡ q = omega arith in o) (record {
        i_few = s.i_few;
        j_few = s.j_few;
        p_few = omega (arith, s.p_few);
        q_few = s.q_few;
        low_rows = s.low_rows;
        high_rows = λ x y a b c. elim (dec_lt x p) as (λ d. Clear x y) [
          | no d ↦ s.high_rows x y (omega arith) b c
          | yes d ↦ elim (dec_lt y q) as (λ d. Clear x y) [
            | yes g ↦ s.low_columns x y b g
            | no g ↦ from_high x y (p - 1) q (T_is _ e) (f_rises (p - 1) x (omega arith) b) (h_rises q y (omega arith) c)
          ]
        ];
        low_columns = s.low_columns;
        high_columns = s.high_columns;
      })
      | false ↦ λ e z. rw (z, let o : q + (1 - 0) ≡ q + 1 = omega arith in o, let o : p - 0 ≡ p = omega arith in o) (record {
        i_few = s.i_few;
        j_few = s.j_few;
        p_few = s.p_few;
        q_few = omega arith;
        low_rows = s.low_rows;
        high_rows = s.high_rows;
        low_columns = λ x y a b. elim (dec_lt y q) as (λ d. Clear x y) [
          | yes d ↦ s.low_columns x y a d
          | no d ↦ elim (dec_lt x p) as (λ d. Clear x y) [
            | no g ↦ s.high_rows x y (omega arith) a (omega arith)
            | yes g ↦ from_low x y (p - 1) q t e (f_rises x (p - 1) (omega arith) (omega (arith, s.p_few))) (h_rises y q (omega arith) l)
          ]
        ];
        high_columns = s.high_columns;
      })
    ] refl

    -- nothing is left
    pub walk_end : (p ≤ i) ⊎ (j ≤ q) → below n (λ x. below m (λ y. apart floor ceiling (f x +ℤ h y))) ≡ true
    walk_end z =
        is_true _ (at_below n (λ x. below m (λ y. apart floor ceiling (f x +ℤ h y))) λ x k. at_below m (λ y. apart floor ceiling (f x +ℤ h y)) λ y l.
        passed x y k l z)
      where
        passed : (x y : ℕ) → x < n → y < m → (p ≤ i) ⊎ (j ≤ q) → Clear x y
        passed x y k l (inl o) = elim (dec_lt x i) as (λ d. Clear x y) [ yes d ↦ s.low_rows x y d l | no d ↦ s.high_rows x y (omega arith) k l ]
        passed x y k l (inr o) = elim (dec_lt y q) as (λ d. Clear x y) [ yes d ↦ s.low_columns x y k d | no d ↦ s.high_columns x y k (omega arith) l ]

  -- a sum between
  pub walk_broken : (x y : ℕ) → x < n → y < m → apart floor ceiling (f x +ℤ h y) ≡ false
      → below n (λ x. below m (λ y. apart floor ceiling (f x +ℤ h y))) ≡ false
  walk_broken x y k l e =
      elim (below n (λ x. below m (λ y. apart floor ceiling (f x +ℤ h y)))) as (λ b. (T b → ⊥) → b ≡ false) [ true ↦ λ g. absurd (g tt) | false ↦ λ g. refl ]
      (λ t. fails (apart floor ceiling (f x +ℤ h y)) e
      (below_at m (λ y. apart floor ceiling (f x +ℤ h y)) (below_at n (λ x. below m (λ y. apart floor ceiling (f x +ℤ h y))) t x k) y l))
    where
      fails : (b : Bool) → b ≡ false → T b → ⊥
      fails b e t = subst T e t

-- of two tests that are not both true, one is false
pub one_broken : {X : Type 0} (a b : Bool) → a && b ≡ false → (a ≡ false → X) → (b ≡ false → X) → X
one_broken true b e f g = g e
one_broken false b e f g = f refl
