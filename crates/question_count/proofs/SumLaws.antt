-- Laws of sums over the numbers below a number. Assumes nothing.
use Rattle.std.specs.Prelude.{◌≡◌, refl, ◌≢◌, ℕ, zero, suc, ◌+◌, ◌*◌, ◌^◌, ◌<◌}
use Rattle.std.proofs.Common.{sym, ap, ◌∙◌, mul-suc, arith, pow-add}
use Rattle.std.proofs.Math.Decide.{ℕ_discrete}
use Rattle.question_count.specs.Sum.{sum_below}

pub sum_same : (n : ℕ) (f g : ℕ → ℕ) → ((x : ℕ) → x < n → f x ≡ g x) → sum_below n f ≡ sum_below n g
unfolding sum_below
sum_same zero f g e = refl
sum_same (suc n) f g e = rw (sum_same n f g (λ x h. e x (omega arith)), e n (omega arith))

pub sum_below_none : (n : ℕ) (f : ℕ → ℕ) → ((x : ℕ) → x < n → f x ≡ 0) → sum_below n f ≡ 0
unfolding sum_below
sum_below_none zero f e = refl
sum_below_none (suc n) f e = omega (arith, sum_below_none n f (λ x h. e x (omega arith)), e n (omega arith))

-- where at most one summand is not 0, the sum is that one
pub sum_only : (n y : ℕ) (f : ℕ → ℕ) → y < n → ((x : ℕ) → x < n → x ≢ y → f x ≡ 0) → sum_below n f ≡ f y
unfolding sum_below
sum_only zero y f h e = absurd (omega arith)
sum_only (suc n) y f h e = elim (ℕ_discrete n y) as (λ d. sum_below n f + f n ≡ f y) [
  | yes k ↦ rw k (omega (arith, sum_below_none y f λ x j. e x (omega arith) (omega arith)))
  | no k ↦ omega (arith, sum_only n y f (omega arith) (λ x j. e x (omega arith)), e n (omega arith) k)
]

pub sum_plus : (n : ℕ) (f g : ℕ → ℕ) → sum_below n (λ x. f x + g x) ≡ sum_below n f + sum_below n g
unfolding sum_below
sum_plus zero f g = refl
sum_plus (suc n) f g = omega (arith, sum_plus n f g)

sum_below_append : (n k : ℕ) (f : ℕ → ℕ) → sum_below (n + k) f ≡ sum_below n f + sum_below k (λ x. f (n + x))
unfolding sum_below
sum_below_append n zero f = rw (let e : n + 0 ≡ n = omega arith in e) (omega arith)
sum_below_append n (suc k) f = rw (let e : n + suc k ≡ suc (n + k) = omega arith in e) (omega (arith, sum_below_append n k f))

-- the numbers below n * k are a + n * y, with a below n and y below k
sum_times : (n k : ℕ) (f : ℕ → ℕ) → sum_below (n * k) f ≡ sum_below n (λ a. sum_below k (λ y. f (a + n * y)))
unfolding sum_below
sum_times n zero f = rw (let e : n * 0 ≡ 0 = omega arith in e) (sym (sum_below_none n (λ a. 0) (λ x h. refl)))
sum_times n (suc k) f = rw (mul-suc n k) (
    sum_below_append (n * k) n f
    ∙ ap (λ (s : ℕ). s + sum_below n (λ x. f (n * k + x))) (sum_times n k f)
    ∙ ap (λ (s : ℕ). sum_below n (λ a. sum_below k (λ y. f (a + n * y))) + s)
    (sum_same n (λ x. f (n * k + x)) (λ x. f (x + n * k)) (λ x h. ap f (omega arith)))
    ∙ sym (sum_plus n (λ a. sum_below k (λ y. f (a + n * y))) (λ a. f (a + n * k))))

-- the numbers of n + k bits, by their low n bits and their high k bits
pub sum_bits : (n k : ℕ) (f : ℕ → ℕ) → sum_below (2 ^ (n + k)) f ≡ sum_below (2 ^ n) (λ a. sum_below (2 ^ k) (λ y. f (a + 2 ^ n * y)))
sum_bits n k f = rw (pow-add 2 n k) (sum_times (2 ^ n) (2 ^ k) f)
