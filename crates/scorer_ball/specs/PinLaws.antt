-- Laws of pins kept as words: the first ten outputs, raised pins and felled pins. Assumes nothing.
use Rattle.std.specs.Prelude.{◌≡◌, refl, Bool, true, false, not, ◌&&◌, ◌||◌, List, [], ◌∷◌, ℕ, zero, suc, ◌+◌, ◌*◌, ◌/◌, ◌%◌, ◌^◌, ◌≤◌, ◌<◌, min, eqb, length, take}
use Rattle.std.proofs.Common.{sym, ap, ◌∙◌, pow-suc, arith, pow_pos, eq-eqb, eqb→eq}
use Rattle.std.specs.Int.Bits.{bit_and, and_step, and_zero_r}
use Rattle.std.proofs.Math.Arith.{mod-mul}
use Rattle.std.specs.Int.Count.{ones}
use lib.Count.{ones-le}
use Rattle.basics.specs.TestLaws.{T_is, test_same, T_and, and_T}
use Rattle.network.specs.Threshold.{digit, word_of, ones_of}
use Rattle.network.specs.WordLaws.{digit_below, ones_word}
use Rattle.scorer_theory.specs.Rules.{pins_of, fresh_rack, has_raised_pin, felled_by}
use Rattle.scorer_theory.proofs.RuleLaws.{felled_ones}
use Rattle.scorer_ball.specs.Words.{bits_of, pins_in, SameRack}

-- ---- words and lists
digit_bit : (b : Bool) (n : ℕ) → eqb ((digit b + 2 * n) % 2) 1 ≡ b
digit_bit true n = rw (let e : (1 + 2 * n) % 2 ≡ 1 = omega arith in e)
digit_bit false n = rw (let e : (0 + 2 * n) % 2 ≡ 0 = omega arith in e)

bit_digit : (n : ℕ) → n < 2 → digit (eqb n 1) ≡ n
bit_digit zero h = refl
bit_digit (suc zero) h = refl
bit_digit (suc (suc n)) h = absurd (omega arith)

-- the lowest n bits of a list's word are its first n members
bits_word : (n : ℕ) (bs : List Bool) → n ≤ length bs → bits_of n (word_of bs) ≡ take n bs
unfolding bits_of word_of
bits_word zero bs h = refl
bits_word (suc n) [] h = absurd (omega arith)
bits_word (suc n) (b ∷ bs) h =
    let half : (digit b + 2 * word_of bs) / 2 ≡ word_of bs = omega (arith, digit_below b) in
    rw (digit_bit b (word_of bs), half) (ap (λ (l : List Bool). b ∷ l) (bits_word n bs (omega arith)))

-- a word of n bits is the word of these bits
word_bits : (n w : ℕ) → w < 2 ^ n → word_of (bits_of n w) ≡ w
unfolding bits_of word_of
word_bits zero w h = omega arith
word_bits (suc n) w h =
    rw (bit_digit (w % 2) (omega arith), word_bits n (w / 2) (omega (arith, pow-suc 2 n))) (omega arith)

-- bits above the lowest n don't count
bits_mod : (n w : ℕ) → bits_of n (w % 2 ^ n) ≡ bits_of n w
unfolding bits_of
bits_mod zero w = refl
bits_mod (suc n) w =
    let m : w % 2 ^ suc n ≡ (w / 2 % 2 ^ n) * 2 + w % 2 = ap (λ (k : ℕ). w % k) (pow-suc 2 n) ∙ mod-mul w (pow_pos n) (omega arith) in
    let low : w % 2 ^ suc n % 2 ≡ w % 2 = omega arith in
    let high : w % 2 ^ suc n / 2 ≡ w / 2 % 2 ^ n = omega arith in
    rw (low, high, bits_mod n (w / 2))

length_bits : (n w : ℕ) → length (bits_of n w) ≡ n
unfolding bits_of
length_bits zero w = refl
length_bits (suc n) w = ap suc (length_bits n (w / 2))

-- the first ten outputs are the pins of the output word, and of its lowest ten bits
pub pins_word : (bs : List Bool) → 10 ≤ length bs → pins_in (word_of bs % 1024) ≡ pins_of bs
unfolding pins_of
pins_word bs h = bits_mod 10 (word_of bs) ∙ bits_word 10 bs h

-- "the number of outputs that are 1", of ten pins: the ones of their word
pub pins_ones : (w : ℕ) → w < 1024 → ones w ≡ ones_of (pins_in w)
pins_ones w h = ap ones (sym (word_bits 10 w h)) ∙ ones_word (pins_in w)

-- ---- raised pins
eqb_double : (x y c d : ℕ) → c < 2 → d < 2 → eqb (x * 2 + c) (y * 2 + d) ≡ (eqb c d && eqb x y)
eqb_double x y c d h k = test_same (eqb (x * 2 + c) (y * 2 + d)) (eqb c d && eqb x y)
    (λ t.
    let e = eqb→eq (x * 2 + c) (y * 2 + d) t in
    and_T (eqb c d) (eqb x y) (T_is (eqb c d) (eq-eqb c d (omega arith))) (T_is (eqb x y) (eq-eqb x y (omega arith))))
    (λ t.
    let p = T_and (eqb c d) (eqb x y) t in
    let e = eqb→eq c d p.0 in
    let f = eqb→eq x y p.1 in
    T_is (eqb (x * 2 + c) (y * 2 + d)) (eq-eqb (x * 2 + c) (y * 2 + d) (omega arith)))

raised_bit : (a b : ℕ) → a < 2 → b < 2 → (eqb a 1 && not (eqb b 1)) ≡ not (eqb (min b a) a)
raised_bit zero zero h k = refl
raised_bit zero (suc zero) h k = refl
raised_bit (suc zero) zero h k = refl
raised_bit (suc zero) (suc zero) h k = refl
raised_bit (suc (suc a)) b h k = absurd (omega arith)
raised_bit zero (suc (suc b)) h k = absurd (omega arith)
raised_bit (suc zero) (suc (suc b)) h k = absurd (omega arith)

or_not : (p q : Bool) → (not p || not q) ≡ not (p && q)
or_not true q = refl
or_not false q = refl

-- a pin is raised exactly when the pins that stood before and stand after are not all that stand after
raised_bits : (n b a : ℕ) → a < 2 ^ n → has_raised_pin (bits_of n b) (bits_of n a) ≡ not (eqb (bit_and b a) a)
unfolding has_raised_pin bits_of
raised_bits zero b a h =
    let z : a ≡ 0 = omega arith in
    rw (z, and_zero_r b)
raised_bits (suc n) b a h =
    let e : a ≡ a / 2 * 2 + a % 2 = omega arith in
    let split : eqb (bit_and b a) a ≡ (eqb (min (b % 2) (a % 2)) (a % 2) && eqb (bit_and (b / 2) (a / 2)) (a / 2)) =
    ap (λ (k : ℕ). eqb k a) (and_step b a) ∙ ap (λ (k : ℕ). eqb (bit_and (b / 2) (a / 2) * 2 + min (b % 2) (a % 2)) k) e
    ∙ eqb_double (bit_and (b / 2) (a / 2)) (a / 2) (min (b % 2) (a % 2)) (a % 2) (omega arith) (omega arith) in
    rw (raised_bit (a % 2) (b % 2) (omega arith) (omega arith), raised_bits n (b / 2) (a / 2) (omega (arith, pow-suc 2 n)), split)
    (or_not (eqb (min (b % 2) (a % 2)) (a % 2)) (eqb (bit_and (b / 2) (a / 2)) (a / 2)))

pub raised_word : (before after : ℕ) → after < 1024 → has_raised_pin (pins_in before) (pins_in after) ≡ not (eqb (bit_and before after) after)
raised_word before after h = raised_bits 10 before after h

-- ---- felled pins
-- the pins felled and those that stand after the ball are those that stood before it
pub felled_ones_of : {before after : ℕ} → SameRack before after
    → felled_by (pins_in before) (pins_in after) + ones_of (pins_in after) ≡ ones_of (pins_in before)
felled_ones_of {before} {after} r = felled_ones (pins_in before) (pins_in after) (length_bits 10 before ∙ sym (length_bits 10 after)) r.same_rack

pub standing_ten : (w : ℕ) → w < 1024 → ones_of (pins_in w) ≤ 10
standing_ten w h = rw (← pins_ones w h) (ones-le 10 w h)

-- ---- the word of ten pins that stand
pub fresh_word : pins_in 1023 ≡ fresh_rack
unfolding bits_of fresh_rack
fresh_word = refl
