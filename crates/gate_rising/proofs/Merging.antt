-- Two rising lists merged into one from both ends: what a part of the merged list has, one member more, and the two ends together.
-- Assumes nothing.
use mathlib.Core.Path.{◌≡◌, refl, sym, ap, ap₂, ◌∙◌, subst}
use mathlib.Core.Bool.{Bool, true, false, ◌&&◌}
use Prim.Native.Nat.{ℕ, ◌+◌, ◌*◌, ◌-◌, ◌≤◌, ◌<◌}
use native.Mathlib.Decide.{dec_lt}
use native.Mathlib.Omega.{arith}
use lib.Dec.{T}
use lib.IntN.{ℤ}
use lib.Signed.{le_z}
use Rattle.basics.specs.Lists.{below}
use Rattle.basics.specs.ListLaws.{below_more, below_at, at_below, below_same}
use Rattle.basics.specs.IntegerLaws.{#, of_le, le_of}
use Rattle.basics.specs.TestLaws.{T_and, and_T, and_true, and_assoc, test_same}
use Rattle.gate_rising.specs.Tables.{AtMost}

-- g has the first a members of f and the first b of h, in the order R, and no others; where two are equal, f's comes first
pub record Merged (R : ℤ → ℤ → Type 0) (f h : ℕ → ℤ) (n a b : ℕ) (g : ℕ → ℤ) : Type 0 where
  pub same : (p : ℤ → Bool) → below (a + b) (λ i. p (g i)) ≡ (below a (λ i. p (f i)) && below b (λ i. p (h i)))
  pub ordered : (i j : ℕ) → i < j → j < a + b → R (g i) (g j)
  pub before_f : (i : ℕ) → i < a + b → a < n → R (g i) (f a)
  pub before_h : (i : ℕ) → i < a + b → b < n → R (g i) (h b)
  pub ahead : (j : ℕ) → j < b → a < n → R (f a) (h j) → ⊥
  pub behind : (i : ℕ) → i < a → b < n → R (f i) (h b)

-- nothing merged yet
pub merged_none : (R : ℤ → ℤ → Type 0) (f h : ℕ → ℤ) (n : ℕ) (g : ℕ → ℤ) → Merged R f h n 0 0 g
merged_none R f h n g = record {
  same = λ p. unfold below in refl;
  ordered = λ i j k l. absurd (omega arith);
  before_f = λ i k l. absurd (omega arith);
  before_h = λ i k l. absurd (omega arith);
  ahead = λ j k l r. absurd (omega arith);
  behind = λ i k l. absurd (omega arith);
}

-- members past those merged do not matter
pub merged_same : {R : ℤ → ℤ → Type 0} {f h : ℕ → ℤ} {n a b : ℕ} (g g' : ℕ → ℤ) → ((i : ℕ) → i < a + b → g' i ≡ g i) → Merged R f h n a b g
    → Merged R f h n a b g'
merged_same {R} {f} {h} {n} {a} {b} g g' old m = record {
  same = λ p. below_same (a + b) (λ i. p (g' i)) (λ i. p (g i)) (λ i l. ap p (old i l)) ∙ m.same p;
  ordered = λ i j k l. rw (old i (omega arith), old j l) (m.ordered i j k l);
  before_f = λ i k l. rw (old i k) (m.before_f i k l);
  before_h = λ i k l. rw (old i k) (m.before_h i k l);
  ahead = m.ahead;
  behind = m.behind;
}

-- a number below k + 1 is below k or is k
one_more : (P : ℕ → Type 0) (k j : ℕ) → j < k + 1 → (j < k → P j) → P k → P j
one_more P k j l f e = elim (dec_lt j k) as (λ d. P j) [ yes q ↦ f q | no q ↦ rw (let q : j ≡ k = omega arith in q) e ]

and_swap : (x y z : Bool) → (x && y) && z ≡ (x && z) && y
and_swap true true z = sym (and_true z)
and_swap true false true = refl
and_swap true false false = refl
and_swap false y z = refl

-- ---- one member more
module _ {R : ℤ → ℤ → Type 0} (trans : (x y z : ℤ) → R x y → R y z → R x z) (f h : ℕ → ℤ) (n : ℕ)
    (f_rises : (i j : ℕ) → i ≤ j → j < n → R (f i) (f j)) (h_rises : (i j : ℕ) → i ≤ j → j < n → R (h i) (h j))
    (a b : ℕ) (g g' : ℕ → ℤ) (m : Merged R f h n a b g) (old : (i : ℕ) → i < a + b → g' i ≡ g i) (a_in : a < n) (b_in : b < n) where
  -- the test of one member more
  same_more : (k : ℕ) (z : ℤ) → k ≡ a + b + 1 → g' (a + b) ≡ z → (p : ℤ → Bool)
      → below k (λ i. p (g' i)) ≡ ((below a (λ i. p (f i)) && below b (λ i. p (h i))) && p z)
  same_more k z e last p =
      ap (λ (j : ℕ). below j (λ i. p (g' i))) e ∙ below_more (λ i. p (g' i)) (a + b)
      ∙ ap₂ ◌&&◌ (below_same (a + b) (λ i. p (g' i)) (λ i. p (g i)) (λ i l. ap p (old i l)) ∙ m.same p) (ap p last)

  -- f's next
  pub first_put : R (f a) (h b) → g' (a + b) ≡ f a → Merged R f h n (a + 1) b g'
  first_put r e = record {
    same = λ p. same_more (a + 1 + b) (f a) (omega arith) e p
        ∙ and_swap (below a (λ i. p (f i))) (below b (λ i. p (h i))) (p (f a))
        ∙ ap (λ (x : Bool). x && below b (λ i. p (h i))) (sym (below_more (λ i. p (f i)) a));
    ordered = λ i j k l. one_more (λ j. i < j → R (g' i) (g' j)) (a + b) j (omega arith)
        (λ q k. rw (old i (omega arith), old j q) (m.ordered i j k q))
        (λ k. rw (old i k, e) (m.before_f i k a_in)) k;
    before_f = λ i k l. one_more (λ i. R (g' i) (f (a + 1))) (a + b) i (omega arith)
        (λ q. rw (old i q) (trans (g i) (f a) (f (a + 1)) (m.before_f i q a_in) (f_rises a (a + 1) (omega arith) l)))
        (rw e (f_rises a (a + 1) (omega arith) l));
    before_h = λ i k l. one_more (λ i. R (g' i) (h b)) (a + b) i (omega arith) (λ q. rw (old i q) (m.before_h i q l)) (rw e r);
    ahead = λ j k l q. m.ahead j k a_in (trans (f a) (f (a + 1)) (h j) (f_rises a (a + 1) (omega arith) l) q);
    behind = λ i k l. one_more (λ i. R (f i) (h b)) a i k (λ q. m.behind i q l) r;
  }

  -- h's next
  pub second_put : (R (f a) (h b) → ⊥) → R (h b) (f a) → g' (a + b) ≡ h b → Merged R f h n a (b + 1) g'
  second_put apart r e = record {
    same = λ p. same_more (a + (b + 1)) (h b) (omega arith) e p
        ∙ and_assoc (below a (λ i. p (f i))) (below b (λ i. p (h i))) (p (h b))
        ∙ ap (λ (x : Bool). below a (λ i. p (f i)) && x) (sym (below_more (λ i. p (h i)) b));
    ordered = λ i j k l. one_more (λ j. i < j → R (g' i) (g' j)) (a + b) j (omega arith)
        (λ q k. rw (old i (omega arith), old j q) (m.ordered i j k q))
        (λ k. rw (old i k, e) (m.before_h i k b_in)) k;
    before_f = λ i k l. one_more (λ i. R (g' i) (f a)) (a + b) i (omega arith) (λ q. rw (old i q) (m.before_f i q l)) (rw e r);
    before_h = λ i k l. one_more (λ i. R (g' i) (h (b + 1))) (a + b) i (omega arith)
        (λ q. rw (old i q) (trans (g i) (h b) (h (b + 1)) (m.before_h i q b_in) (h_rises b (b + 1) (omega arith) l)))
        (rw e (h_rises b (b + 1) (omega arith) l));
    ahead = λ j k l q. one_more (λ j. R (f a) (h j) → ⊥) b j k (λ s. m.ahead j s l) apart q;
    behind = λ i k l. trans (f i) (h b) (h (b + 1)) (m.behind i k b_in) (h_rises b (b + 1) (omega arith) l);
  }

-- ---- both ends

-- the order from the back
abbrev pub AtLeast : ℤ → ℤ → Type 0
AtLeast x y = AtMost y x

-- a list from its back
abbrev pub reversed : ℕ → (ℕ → ℤ) → ℕ → ℤ
reversed n f i = f (n - 1 - i)

pub again : (n i : ℕ) → i < n → n - 1 - (n - 1 - i) ≡ i
again n i h = omega arith

pub last : (n c : ℕ) → 1 ≤ c → c ≤ n → n - 1 - (n - c) ≡ c - 1
last n c h k = omega arith

pub at_most_trans : (x y z : ℤ) → AtMost x y → AtMost y z → AtMost x z
at_most_trans x y z h k = omega arith

back_again : (n : ℕ) (f : ℕ → ℤ) (i : ℕ) → i < n → reversed n f (n - 1 - i) ≡ f i
back_again n f i h = ap f (again n i h)

module _ (f h : ℕ → ℤ) (n : ℕ) (f_rises : (i j : ℕ) → i ≤ j → j < n → AtMost (f i) (f j)) (h_rises : (i j : ℕ) → i ≤ j → j < n → AtMost (h i) (h j))
    (a b c d : ℕ) (g : ℕ → ℤ) (front : Merged AtMost f h n a b g) (back : Merged AtLeast (reversed n h) (reversed n f) n (n - d) (n - c) (reversed (2 * n) g))
    (fronts : a + b ≡ n) (backs : c + d ≡ n) where
  -- the front ends where the back begins
  meet : a ≡ c
  meet = elim (dec_lt a c) as (λ t. a ≡ c) [
    | yes q ↦
        let x = front.ahead (b - 1) (omega arith) (omega arith) in
        let y : AtMost (f (n - 1 - (n - c))) (h (n - 1 - (n - b))) = back.behind (n - b) (omega arith) (omega arith) in
        let y' : AtMost (f (c - 1)) (h (b - 1)) = rw (last n c (omega arith) (omega arith), last n b (omega arith) (omega arith)) at y in
        let z = f_rises a (c - 1) (omega arith) (omega arith) in
        absurd (x (omega arith))
    | no p ↦ elim (dec_lt c a) as (λ t. a ≡ c) [
      | yes q ↦
          let x = front.behind (a - 1) (omega arith) (omega arith) in
          let y : AtMost (f (n - 1 - (n - a))) (h (n - 1 - (n - d))) → ⊥ = back.ahead (n - a) (omega arith) (omega arith) in
          let y' : AtMost (f (a - 1)) (h (d - 1)) → ⊥ = rw (last n a (omega arith) (omega arith), last n d (omega arith) (omega arith)) at y in
          let z = h_rises b (d - 1) (omega arith) (omega arith) in
          absurd (y' (omega arith))
      | no q ↦ omega arith
    ]
  ]

  -- the tests of all members
  pub both_same : (p : ℤ → Bool) → below (2 * n) (λ i. p (g i)) ≡ (below n (λ i. p (f i)) && below n (λ i. p (h i)))
  both_same p = test_same (below (2 * n) (λ i. p (g i))) (below n (λ i. p (f i)) && below n (λ i. p (h i))) parted joined
    where
      parted : T (below (2 * n) (λ i. p (g i))) → T (below n (λ i. p (f i)) && below n (λ i. p (h i)))
      parted t =
          let x = T_and (below a (λ i. p (f i))) (below b (λ i. p (h i)))
          (subst T (front.same p) (at_below (a + b) (λ i. p (g i)) (λ i k. below_at (2 * n) (λ i. p (g i)) t i (omega arith)))) in
          let y = T_and (below (n - d) (λ i. p (reversed n h i))) (below (n - c) (λ i. p (reversed n f i)))
          (subst T (back.same p)
          (at_below (n - d + (n - c)) (λ i. p (reversed (2 * n) g i)) (λ i k. below_at (2 * n) (λ i. p (g i)) t (2 * n - 1 - i) (omega arith)))) in
          and_T (below n (λ i. p (f i))) (below n (λ i. p (h i)))
          (at_below n (λ i. p (f i)) λ i k. elim (dec_lt i a) as (λ t. T (p (f i))) [
            | yes q ↦ below_at a (λ i. p (f i)) x.0 i q
            | no q ↦ subst (λ (z : ℤ). T (p z)) (back_again n f i k) (below_at (n - c) (λ i. p (reversed n f i)) y.1 (n - 1 - i) (omega (arith, meet)))
          ])
          (at_below n (λ i. p (h i)) λ i k. elim (dec_lt i b) as (λ t. T (p (h i))) [
            | yes q ↦ below_at b (λ i. p (h i)) x.1 i q
            | no q ↦ subst (λ (z : ℤ). T (p z)) (back_again n h i k) (below_at (n - d) (λ i. p (reversed n h i)) y.0 (n - 1 - i) (omega (arith, meet)))
          ])

      joined : T (below n (λ i. p (f i)) && below n (λ i. p (h i))) → T (below (2 * n) (λ i. p (g i)))
      joined t =
          let s = T_and (below n (λ i. p (f i))) (below n (λ i. p (h i))) t in
          let x = subst T (sym (front.same p)) (and_T (below a (λ i. p (f i))) (below b (λ i. p (h i)))
          (at_below a (λ i. p (f i)) λ i k. below_at n (λ i. p (f i)) s.0 i (omega arith))
          (at_below b (λ i. p (h i)) λ i k. below_at n (λ i. p (h i)) s.1 i (omega arith))) in
          let y = subst T (sym (back.same p)) (and_T (below (n - d) (λ i. p (reversed n h i))) (below (n - c) (λ i. p (reversed n f i)))
          (at_below (n - d) (λ i. p (reversed n h i)) λ i k. below_at n (λ i. p (h i)) s.1 (n - 1 - i) (omega arith))
          (at_below (n - c) (λ i. p (reversed n f i)) λ i k. below_at n (λ i. p (f i)) s.0 (n - 1 - i) (omega arith))) in
          at_below (2 * n) (λ i. p (g i)) λ i k. elim (dec_lt i n) as (λ t. T (p (g i))) [
            | yes q ↦ below_at (a + b) (λ i. p (g i)) x i (omega arith)
            | no q ↦ subst (λ (z : ℤ). T (p z)) (back_again (2 * n) g i k)
                (below_at (n - d + (n - c)) (λ i. p (reversed (2 * n) g i)) y (2 * n - 1 - i) (omega arith))
          ]

  -- what the front took is at most what the back has
  f_below : (i j : ℕ) → i < a → n ≤ j → j < 2 * n → AtMost (f i) (g j)
  f_below i j q l m =
      let x : AtMost (f (n - 1 - (n - c))) (g (2 * n - 1 - (2 * n - 1 - j))) = back.before_h (2 * n - 1 - j) (omega arith) (omega (arith, meet)) in
      at_most_trans (f i) (f (c - 1)) (g j) (f_rises i (c - 1) (omega (arith, meet)) (omega (arith, meet)))
      (rw (last n c (omega (arith, meet)) (omega arith), again (2 * n) j m) at x)

  h_below : (i j : ℕ) → i < b → n ≤ j → j < 2 * n → AtMost (h i) (g j)
  h_below i j q l m =
      let x : AtMost (h (n - 1 - (n - d))) (g (2 * n - 1 - (2 * n - 1 - j))) = back.before_f (2 * n - 1 - j) (omega arith) (omega (arith, meet)) in
      at_most_trans (h i) (h (d - 1)) (g j) (h_rises i (d - 1) (omega (arith, meet)) (omega (arith, meet)))
      (rw (last n d (omega (arith, meet)) (omega arith), again (2 * n) j m) at x)

  -- a member of the front and one of the back
  across : (i j : ℕ) → i < n → n ≤ j → j < 2 * n → AtMost (g i) (g j)
  across i j k l m =
      let p : ℤ → Bool = λ z. le_z z (g j) in
      let t = subst T (sym (front.same p)) (and_T (below a (λ i. p (f i))) (below b (λ i. p (h i)))
      (at_below a (λ i. p (f i)) λ x q. of_le (# (f x)) (# (g j)) (f_below x j q l m))
      (at_below b (λ i. p (h i)) λ x q. of_le (# (h x)) (# (g j)) (h_below x j q l m))) in
      le_of (# (g i)) (# (g j)) (below_at (a + b) (λ i. p (g i)) t i (omega arith))

  -- all members rise
  pub both_rise : (i j : ℕ) → i ≤ j → j < 2 * n → AtMost (g i) (g j)
  both_rise i j k l = elim (dec_lt i j) as (λ t. AtMost (g i) (g j)) [
    | no q ↦ let e : i ≡ j = omega arith in rw e (omega arith)
    | yes s ↦ elim (dec_lt j n) as (λ t. AtMost (g i) (g j)) [
      | yes q ↦ front.ordered i j s (omega arith)
      | no q ↦ elim (dec_lt i n) as (λ t. AtMost (g i) (g j)) [
        | yes r ↦ across i j r (omega arith) l
        | no r ↦
            let x : AtMost (g (2 * n - 1 - (2 * n - 1 - i))) (g (2 * n - 1 - (2 * n - 1 - j))) =
            back.ordered (2 * n - 1 - j) (2 * n - 1 - i) (omega arith) (omega arith) in
            rw (again (2 * n) i (omega arith), again (2 * n) j l) at x
      ]
    ]
  ]
