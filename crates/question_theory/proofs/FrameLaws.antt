-- A frame from its bits: the number whose bits are those of a list, or the first bits of an assignment. Assumes nothing.
use Rattle.std.specs.Prelude.{◌≡◌, Bool, true, false, List, [], ◌∷◌, ◌↔◌, ℕ, zero, suc, ◌+◌, ◌*◌, ◌/◌, ◌%◌, ◌^◌, ◌<◌, T, eqb, get_or}
use Rattle.std.proofs.Common.{ap, ◌∙◌, div-lt_iff_lt-mul, arith, eqb→eq, pow_pos}
use Rattle.std.proofs.Math.Nat.{zero-div, div-div-eq-div-mul, div-eq_of_lt, pow-succ'}
use Rattle.basics.specs.Lists.{tab}
use Rattle.basics.specs.ListLaws.{length_tab, get_or_tab}
use Rattle.network.specs.Threshold.{Assignment, frame, fits_frame, digit, word_of}
use Rattle.network.specs.WordLaws.{digit_below, word_below}

first_bit : (b : Bool) (w : ℕ) → eqb ((digit b + 2 * w) / 2 ^ 0 % 2) 1 ≡ b
first_bit true w = rw (let e : (1 + 2 * w) / 2 ^ 0 % 2 ≡ 1 = omega arith in e)
first_bit false w = rw (let e : (0 + 2 * w) / 2 ^ 0 % 2 ≡ 0 = omega arith in e)

-- the bits after the first are those of the half
pub frame_half : (x i : ℕ) → frame x (suc i) ≡ frame (x / 2) i
unfolding frame
frame_half x i = rw (pow-succ' 2 i, ← (div-div-eq-div-mul x 2 (2 ^ i)))

-- bit i of the number is member i of the list
pub frame_word : (bs : List Bool) (i : ℕ) → frame (word_of bs) i ≡ get_or bs i false
unfolding frame word_of
frame_word [] i = rw (zero-div (2 ^ i))
frame_word (b ∷ bs) zero = first_bit b (word_of bs)
frame_word (b ∷ bs) (suc i) = frame_half (digit b + 2 * word_of bs) i
    ∙ ap (λ (n : ℕ). frame n i) (let e : (digit b + 2 * word_of bs) / 2 ≡ word_of bs = omega (arith, digit_below b) in e) ∙ frame_word bs i

-- the number of n bits that has the first n bits of an assignment
module _ (n : ℕ) (ρ : Assignment) where
  pub tab_below : word_of (tab n ρ) < 2 ^ n
  tab_below = rw (length_tab n ρ) at (word_below (tab n ρ))

  pub frame_tab : (s : ℕ) → s < n → frame (word_of (tab n ρ)) s ≡ ρ s
  frame_tab s h = frame_word (tab n ρ) s ∙ get_or_tab false n ρ s h

-- the frames that are not refused are the numbers of as many bits as there are inputs
pub fits_below : (n x : ℕ) → T (fits_frame n x) ↔ (x < 2 ^ n)
unfolding fits_frame
fits_below n x = (
  λ t. omega (arith, (div-lt_iff_lt-mul {k = 2 ^ n} {x = x} {y = 1} (pow_pos n)).0 (omega (arith, eqb→eq (x / 2 ^ n) 0 t))),
  λ h. rw (div-eq_of_lt h) tt,
)
