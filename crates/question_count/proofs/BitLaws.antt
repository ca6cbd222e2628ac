-- The bits of a number made of low bits and high bits, and numbers with the same bits. Assumes nothing.
use Rattle.std.specs.Prelude.{◌≡◌, refl, true, false, [], ℕ, zero, suc, ◌+◌, ◌*◌, ◌/◌, ◌%◌, ◌-◌, ◌^◌, ◌<◌, T, eqb}
use Rattle.std.proofs.Common.{sym, ap, ◌∙◌, mul_assoc, mul-suc, mul-le-mul_left, pow-suc, arith, pow_pos, pow-add, shr-shr}
use Rattle.std.proofs.Math.Nat.{add-mul-div_left, div-eq_of_lt, pow-succ', add-mul-mod_self_left}
use Rattle.basics.specs.Lists.{tab}
use Rattle.basics.specs.TestLaws.{is_false, test_case}
use Rattle.network.specs.Threshold.{Assignment, frame, digit, word_of}
use Rattle.question_theory.proofs.FrameLaws.{frame_half, frame_word, tab_below, frame_tab}

-- bit j of the high bits c is bit n + j
pub frame_high : (n b c j : ℕ) → b < 2 ^ n → frame (b + 2 ^ n * c) (n + j) ≡ frame c j
unfolding frame
frame_high n b c j h = ap (λ (x : ℕ). eqb (x % 2) 1) (
    sym (shr-shr (b + 2 ^ n * c) n j) ∙ ap (λ (x : ℕ). x / 2 ^ j) (add-mul-div_left b c (pow_pos n) ∙ rw (div-eq_of_lt h) (omega arith)))

bit_below_power : (b c s k : ℕ) → (b + 2 ^ (s + suc k) * c) / 2 ^ s % 2 ≡ b / 2 ^ s % 2
bit_below_power b c s k = rw (
  pow-add 2 s (suc k),
  pow-succ' 2 k,
  mul_assoc (2 ^ s) (2 * 2 ^ k) c,
  mul_assoc 2 (2 ^ k) c,
  add-mul-div_left b (2 * (2 ^ k * c)) (pow_pos s),
) (add-mul-mod_self_left (b / 2 ^ s) 2 (2 ^ k * c))

-- bit s below n is bit s of the low bits b
pub frame_low : (n b c s : ℕ) → s < n → frame (b + 2 ^ n * c) s ≡ frame b s
unfolding frame
frame_low n b c s h = ap (λ (x : ℕ). eqb x 1)
    (ap (λ (m : ℕ). (b + 2 ^ m * c) / 2 ^ s % 2) (let e : n ≡ s + suc (n - suc s) = omega arith in e) ∙ bit_below_power b c s (n - suc s))

-- n low bits and k high bits are n + k bits
pub bits_below : (n k b y : ℕ) → b < 2 ^ n → y < 2 ^ k → b + 2 ^ n * y < 2 ^ (n + k)
bits_below n k b y h j = rw (pow-add 2 n k) (omega (arith, mul-suc (2 ^ n) y, mul-le-mul_left (2 ^ n) j))

-- ---- the bits of 0, and of 1
pub zero_bit : (j : ℕ) → frame 0 j ≡ false
unfolding word_of
zero_bit j = frame_word [] j

pub one_bit : frame 1 0 ≡ true
unfolding frame
one_bit = refl

-- ---- numbers by their bits
digit_of : (a : ℕ) → a < 2 → digit (eqb a 1) ≡ a
digit_of zero h = refl
digit_of (suc zero) h = refl
digit_of (suc (suc a)) h = absurd (omega arith)

-- the first bit is the rest after halving
first_digit : (x : ℕ) → digit (frame x 0) ≡ x % 2
unfolding frame
first_digit x = digit_of (x / 2 ^ 0 % 2) (omega arith) ∙ omega arith

frame_same : (n x y : ℕ) → x < 2 ^ n → y < 2 ^ n → ((s : ℕ) → s < n → frame x s ≡ frame y s) → x ≡ y
frame_same zero x y h k e = omega arith
frame_same (suc n) x y h k e =
    let low : x % 2 ≡ y % 2 = sym (first_digit x) ∙ ap digit (e 0 (omega arith)) ∙ first_digit y in
    let high : x / 2 ≡ y / 2 = frame_same n (x / 2) (y / 2) (omega (arith, pow-suc 2 n)) (omega (arith, pow-suc 2 n))
    (λ s j. sym (frame_half x s) ∙ e (suc s) (omega arith) ∙ frame_half y s) in
    omega arith

-- a number of m bits that is not 0 has a bit that is 1
pub some_bit : (m x : ℕ) → x < 2 ^ m → 0 < x → (j : ℕ) × (j < m) × T (frame x j)
some_bit zero x h k = absurd (omega arith)
some_bit (suc m) x h k = test_case (frame x 0)
    (λ t. (0, omega arith, t))
    (λ t.
    let even : 0 ≡ x % 2 = sym (ap digit (is_false (frame x 0) t)) ∙ first_digit x in
    let o = some_bit m (x / 2) (omega (arith, pow-suc 2 m)) (omega arith) in
    (suc o.0, omega (arith, o.1), rw (frame_half x o.0) o.2))

-- no other number of n bits has the first n bits of ρ
pub tab_only : (n : ℕ) (ρ : Assignment) (x : ℕ) → x < 2 ^ n → ((s : ℕ) → s < n → frame x s ≡ ρ s) → x ≡ word_of (tab n ρ)
tab_only n ρ x h e = frame_same n x (word_of (tab n ρ)) h (tab_below n ρ) λ s k. e s k ∙ sym (frame_tab n ρ s k)
