-- How many ways there are to set some bits, at least one, out of m bits of which t may be set: 2 to the power t, less 1. What is defined
-- here serves proofs only. Assumes nothing.
use Rattle.std.specs.Prelude.{◌≡◌, refl, Bool, true, false, not, ◌&&◌, ◌||◌, ◌↔◌, ℕ, zero, suc, ◌+◌, ◌*◌, ◌-◌, ◌^◌, ◌<◌, T}
use Rattle.std.proofs.Common.{sym, ap, ap₂, ◌∙◌, arith, pow_pos, pow-add}
use Rattle.basics.specs.Lists.{below}
use Rattle.basics.specs.ListLaws.{below_at, at_below}
use Rattle.basics.specs.TestLaws.{is_true, test_case, test_same, refuted, and_true, and_false_right, or_second, T_or, or_T}
use Rattle.network.specs.Threshold.{frame, digit}
use Rattle.question_count.specs.Sum.{sum_below, count}
use Rattle.question_count.proofs.SumLaws.{sum_same, sum_below_none, sum_plus, sum_bits}
use Rattle.question_count.proofs.BitLaws.{frame_high, frame_low, zero_bit, one_bit, some_bit}

-- ---- tests of all numbers below n
below_same : (n : ℕ) (p q : ℕ → Bool) → ((j : ℕ) → j < n → p j ≡ q j) → below n p ≡ below n q
unfolding below
below_same zero p q e = refl
below_same (suc n) p q e = rw (below_same n p q (λ j h. e j (omega arith)), e n (omega arith))

-- ---- settings in which only bits that may be set are set

-- bit j of c is set only if d j
allowed : ℕ → (ℕ → Bool) → ℕ → Bool
allowed m d c = below m (λ j. not (frame c j) || d j)

-- one bit more
allowed_more : (m : ℕ) (d : ℕ → Bool) (a y : ℕ) → a < 2 ^ m → allowed (suc m) d (a + 2 ^ m * y) ≡ allowed m d a && (not (frame y 0) || d m)
unfolding allowed below
allowed_more m d a y h = ap₂ ◌&&◌
    (below_same m _ _ λ j k. ap (λ b. not b || d j) (frame_low m a y j k))
    (ap (λ b. not b || d m) (ap (frame (a + 2 ^ m * y)) (let e : m ≡ m + 0 = omega arith in e) ∙ frame_high m a y 0 h))

-- where a bit more may be set there are twice as many
with_bit : (n : ℕ) (p : ℕ → Bool) (b : Bool) → sum_below n (λ a. digit (p a) + digit (p a && b)) ≡ count n p * 2 ^ digit b
with_bit n p true =
    let e : sum_below n (λ a. digit (p a && true)) ≡ count n p = sum_same n _ _ (λ a h. ap digit (and_true (p a))) in
    omega (arith, sum_plus n (λ a. digit (p a)) (λ a. digit (p a && true)))
with_bit n p false =
    let e : sum_below n (λ a. digit (p a && false)) ≡ 0 = sum_below_none n _ (λ a h. ap digit (and_false_right (p a) false refl)) in
    omega (arith, sum_plus n (λ a. digit (p a)) (λ a. digit (p a && false)))

two_settings : (m : ℕ) (d : ℕ → Bool) (a : ℕ) → a < 2 ^ m
    → sum_below (2 ^ 1) (λ y. digit (allowed (suc m) d (a + 2 ^ m * y))) ≡ digit (allowed m d a) + digit (allowed m d a && d m)
unfolding sum_below
two_settings m d a h = rw (allowed_more m d a 0 h, allowed_more m d a 1 h, zero_bit 0, one_bit, and_true (allowed m d a)) (omega arith)

-- 2 to the power t of them, where t bits may be set
count_allowed : (m : ℕ) (d : ℕ → Bool) → count (2 ^ m) (allowed m d) ≡ 2 ^ count m d
unfolding sum_below allowed below
count_allowed zero d = refl
count_allowed (suc m) d =
    ap (λ (k : ℕ). sum_below (2 ^ k) (λ c. digit (allowed (suc m) d c))) (let e : suc m ≡ m + 1 = omega arith in e)
    ∙ sum_bits m 1 (λ c. digit (allowed (suc m) d c))
    ∙ sum_same (2 ^ m) _ (λ a. digit (allowed m d a) + digit (allowed m d a && d m)) (two_settings m d)
    ∙ with_bit (2 ^ m) (allowed m d) (d m)
    ∙ rw (count_allowed m d) (sym (pow-add 2 (count m d) (digit (d m))))

-- ---- .. and at least one bit is set

-- the first summand is 1 in the one sum and 0 in the other
without_first : (n : ℕ) (f g : ℕ → ℕ) → 0 < n → f 0 ≡ 1 → g 0 ≡ 0 → ((x : ℕ) → x < n → 0 < x → g x ≡ f x) → sum_below n f ≡ suc (sum_below n g)
unfolding sum_below
without_first zero f g h a b e = absurd (omega arith)
without_first (suc zero) f g h a b e = omega arith
without_first (suc (suc n)) f g h a b e =
    omega (arith, without_first (suc n) f g (omega arith) a b (λ x j. e x (omega arith)), e (suc n) (omega arith) (omega arith))

-- c sets only bits that may be set, and some bit
pub record ChoiceOfBits (m : ℕ) (d : ℕ → Bool) (c : ℕ) : Type 0 where
  pub only : (j : ℕ) → j < m → T (frame c j) → T (d j)
  pub some : (j : ℕ) × (j < m) × T (frame c j)

allowed_only : (m : ℕ) (d : ℕ → Bool) (c : ℕ) → T (allowed m d c) → (j : ℕ) → j < m → T (frame c j) → T (d j)
unfolding allowed
allowed_only m d c t j h k = or_second (not (frame c j)) (d j) (rw (is_true (frame c j) k) tt) (below_at m _ t j h)

only_allowed : (m : ℕ) (d : ℕ → Bool) (c : ℕ) → ((j : ℕ) → j < m → T (frame c j) → T (d j)) → T (allowed m d c)
unfolding allowed
only_allowed m d c o = at_below m _ λ j h. test_case (frame c j)
    (λ t. or_T (not (frame c j)) (d j) (o j h t))
    (λ t. T_or (not (frame c j)) (d j) t)

-- 2 to the power t, less 1, where t of the m bits may be set
pub count_choices : (m : ℕ) (d p : ℕ → Bool) → ((c : ℕ) → c < 2 ^ m → T (p c) ↔ ChoiceOfBits m d c) → count (2 ^ m) p ≡ 2 ^ count m d - 1
count_choices m d p e =
    omega (arith, count_allowed m d, without_first (2 ^ m) (λ c. digit (allowed m d c)) (λ c. digit (p c)) (pow_pos m) all none more)
  where
    all : digit (allowed m d 0) ≡ 1
    all = ap digit (is_true (allowed m d 0) (only_allowed m d 0 λ j h t. absurd (rw (zero_bit j) at t)))

    none : digit (p 0) ≡ 0
    none = ap digit (refuted (p 0) λ t. let o = ((e 0 (pow_pos m)).0 t).some in rw (zero_bit o.0) at o.2)

    more : (c : ℕ) → c < 2 ^ m → 0 < c → digit (p c) ≡ digit (allowed m d c)
    more c h k = ap digit (test_same (p c) (allowed m d c)
        (λ t. only_allowed m d c ((e c h).0 t).only)
        (λ t. (e c h).1 (record { only = allowed_only m d c t; some = some_bit m c h k })))
