-- Laws of decimal text: one digit more, how long it is, and what it says when it is read back. Assumes nothing.
use Rattle.std.specs.Prelude.{◌≡◌, true, false, cond, ◌≢◌, ℕ, zero, suc, ◌+◌, ◌-◌, ◌*◌, ◌/◌, ◌%◌, ◌^◌, ◌≤◌, ◌<◌, T, ltb, length}
use Rattle.std.proofs.Math.Path.{refl}
use Rattle.std.proofs.Common.{sym, ap, ◌∙◌, arith, eq-eqb, lt-ltb, le-ltb, lt→ltb, ltb→lt, length-append}
use mathlib.Core.List.{List, [], ◌∷◌, ◌++◌}
use Rattle.std.proofs.Math.Option.{some}
use Rattle.basics.specs.Lists.{Each, all}
use Rattle.basics.specs.ListLaws.{each_append, of_each}
use Rattle.basics.specs.TestLaws.{is_true, eqb_no, of_between}
use Rattle.texts.specs.Texts.{digits, decimal, prepend, parts, number_after, is_digit, number}

-- ---- one digit, and one digit more
digits_one : (k n : ℕ) → n < 10 → digits (suc k) n ≡ (48 + n) ∷ []
unfolding digits
digits_one k n h = rw (lt-ltb n 10 h)

digits_more : (k n : ℕ) → 10 ≤ n → digits (suc k) n ≡ digits k (n / 10) ++ ((48 + n % 10) ∷ [])
unfolding digits
digits_more k n h = rw (le-ltb n 10 h)

-- more than enough digits are not more digits
digits_same : (k n : ℕ) → n < 10 ^ suc k → digits (suc (suc k)) n ≡ digits (suc k) n
unfolding digits
digits_same zero n h = digits_one 1 n (omega arith) ∙ sym (digits_one 0 n (omega arith))
digits_same (suc k) n h = elim (ltb n 10) as (λ b. cond b ((48 + n) ∷ []) (digits (suc (suc k)) (n / 10) ++ ((48 + n % 10) ∷ []))
    ≡ cond b ((48 + n) ∷ []) (digits (suc k) (n / 10) ++ ((48 + n % 10) ∷ [])))
    [ true ↦ refl | false ↦ ap (λ (l : List ℕ). l ++ ((48 + n % 10) ∷ [])) (digits_same k (n / 10) (omega arith)) ]

pub decimal_one : (n : ℕ) → n < 10 → decimal n ≡ (48 + n) ∷ []
unfolding decimal
decimal_one n h = digits_one 19 n h

pub decimal_more : (n : ℕ) → 10 ≤ n → n < 2 ^ 64 → decimal n ≡ decimal (n / 10) ++ ((48 + n % 10) ∷ [])
unfolding decimal
decimal_more n h k = digits_more 19 n h ∙ ap (λ (l : List ℕ). l ++ ((48 + n % 10) ∷ [])) (sym (digits_same 18 (n / 10) (omega arith)))

-- ---- a number below 10 ^ d has at most d digits
digits_short : (k n d : ℕ) → n < 10 ^ suc d → length (digits k n) ≤ suc d
unfolding digits
digits_short zero n d h = omega arith
digits_short (suc k) n zero h = rw (is_true (ltb n 10) (lt→ltb n 10 h)) (omega arith)
digits_short (suc k) n (suc d) h = elim (ltb n 10) as (λ b. length (cond b ((48 + n) ∷ []) (digits k (n / 10) ++ ((48 + n % 10) ∷ []))) ≤ suc (suc d))
    [ true ↦ omega arith | false ↦ simp length-append (omega (arith, digits_short k (n / 10) d (omega arith))) ]

pub decimal_short : (n d : ℕ) → n < 10 ^ suc d → length (decimal n) ≤ suc d
unfolding decimal
decimal_short n d h = digits_short 20 n d h

-- ---- digits say their number
number_append : (n : ℕ) (xs ys : List ℕ) → number_after n (xs ++ ys) ≡ number_after (number_after n xs) ys
unfolding number_after
number_append n [] ys = refl
number_append n (x ∷ xs) ys = number_append (n * 10 + (x - 48)) xs ys

digits_say : (k n : ℕ) → n < 10 ^ k → number_after 0 (digits k n) ≡ n
unfolding digits number_after
digits_say zero n h = omega arith
digits_say (suc k) n h = elim (ltb n 10) as (λ b. number_after 0 (cond b ((48 + n) ∷ []) (digits k (n / 10) ++ ((48 + n % 10) ∷ []))) ≡ n) [
  | true ↦ omega arith
  | false ↦ number_append 0 (digits k (n / 10)) ((48 + n % 10) ∷ []) ∙ rw (digits_say k (n / 10) (omega arith)) (omega arith)
]

decimal_says : (n : ℕ) → n < 10 ^ 20 → number_after 0 (decimal n) ≡ n
unfolding decimal
decimal_says n h = digits_say 20 n h

-- c is a digit
abbrev pub Digit : ℕ → Type 0
Digit c = (48 ≤ c) × (c < 58)

all_digits : (k n : ℕ) → Each Digit (digits k n)
unfolding digits
all_digits zero n = tt
all_digits (suc k) n = elim (ltb n 10) as (λ b. (T b → n < 10) → Each Digit (cond b ((48 + n) ∷ []) (digits k (n / 10) ++ ((48 + n % 10) ∷ [])))) [
  | true ↦ λ h. ((omega arith, omega (arith, h tt)), tt)
  | false ↦ λ h. each_append Digit (digits k (n / 10)) ((48 + n % 10) ∷ []) (all_digits k (n / 10)) (omega arith, tt)
] (ltb→lt n 10)

pub decimal_digits : (n : ℕ) → Each Digit (decimal n)
unfolding decimal
decimal_digits n = all_digits 20 n

-- one digit at least
decimal_some : (n : ℕ) → 1 ≤ length (decimal n)
unfolding decimal digits
decimal_some n = elim (ltb n 10) as (λ b. 1 ≤ length (cond b ((48 + n) ∷ []) (digits 19 (n / 10) ++ ((48 + n % 10) ∷ []))))
    [ true ↦ omega arith | false ↦ simp length-append (omega arith) ]

-- nothing but digits, and one at least
digits_number : (ds : List ℕ) → Each Digit ds → 1 ≤ length ds → number ds ≡ some (number_after 0 ds)
unfolding number
digits_number [] h k = absurd (omega arith)
digits_number (d ∷ ds) h k = rw (is_true (all is_digit (d ∷ ds)) (of_each is_digit Digit digit_test (d ∷ ds) h))
  where
    digit_test : (c : ℕ) → Digit c → T (is_digit c)
    digit_test c h = unfold is_digit in of_between 48 57 c (h.0, omega (arith, h.1))

pub decimal_number : (n : ℕ) → n < 10 ^ 20 → number (decimal n) ≡ some n
decimal_number n h = digits_number (decimal n) (decimal_digits n) (decimal_some n) ∙ ap some (decimal_says n h)

-- ---- parts
module _ (separator : ℕ) where
  -- the part before a separator
  pub first_part : (w rest : List ℕ) → Each (λ c. c ≢ separator) w → parts separator (w ++ (separator ∷ rest)) ≡ w ∷ parts separator rest
  unfolding parts prepend
  first_part [] rest h = rw (eq-eqb separator separator refl)
  first_part (c ∷ w) rest h = rw (eqb_no c separator h.0, first_part w rest h.1)

  -- the last part
  pub only_part : (w : List ℕ) → Each (λ c. c ≢ separator) w → parts separator w ≡ w ∷ []
  unfolding parts prepend
  only_part [] h = refl
  only_part (c ∷ w) h = rw (eqb_no c separator h.0, only_part w h.1)
