-- Laws of the words: writing and reading back, both ways. Assumes nothing.
use Rattle.std.specs.Prelude.{ℕ, ◌+◌, ◌*◌, ◌/◌, ◌%◌, ◌<◌, ◌^◌, ◌≡◌, [], ◌∷◌, List, ℤ, get_or}
use Rattle.std.proofs.Common.{arith, ap, ◌∙◌, SFits, to_z, of_z, to_z-of_z}
use Rattle.std.specs.Int.{w32}
use Rattle.std.proofs.Math.Facts.{of_z-to_z, Fits-of_z}
use Rattle.basics.specs.Word.{number32, word_bytes, int_bytes}

-- the word at a place of a list
abbrev pub word_at : List ℕ → ℕ → ℕ
word_at s at = number32 (get_or s at 0) (get_or s (at + 1) 0) (get_or s (at + 2) 0) (get_or s (at + 3) 0)

-- two's complement, both ways
abbrev pub int_at : List ℕ → ℕ → ℤ
int_at s at = to_z w32 (word_at s at)

word_back : (n : ℕ) → n < 2 ^ 32 → number32 (n % 256) (n / 256 % 256) (n / 256 / 256 % 256) (n / 256 / 256 / 256 % 256) ≡ n
word_back n h = omega arith

number32_below : (a b c d : ℕ) → a < 256 → b < 256 → c < 256 → d < 256 → number32 a b c d < 2 ^ 32
number32_below a b c d p q r s = omega arith

word_forth : (a b c d : ℕ) → a < 256 → b < 256 → c < 256 → d < 256 → word_bytes (number32 a b c d) ≡ a ∷ b ∷ c ∷ d ∷ []
word_forth a b c d p q r s =
    let n = number32 a b c d in
    let e0 : n % 256 ≡ a = omega arith in
    let d1 : n / 256 ≡ b + 256 * (c + 256 * d) = omega arith in
    let d2 : (b + 256 * (c + 256 * d)) / 256 ≡ c + 256 * d = omega arith in
    let d3 : (c + 256 * d) / 256 ≡ d = omega arith in
    let e1 : (b + 256 * (c + 256 * d)) % 256 ≡ b = omega arith in
    let e2 : (c + 256 * d) % 256 ≡ c = omega arith in
    let e3 : d % 256 ≡ d = omega arith in
    simp (e0, d1, d2, d3, e1, e2, e3)

pub int_back : (z : ℤ) → SFits w32 z
    → to_z w32 (number32 (of_z w32 z % 256) (of_z w32 z / 256 % 256) (of_z w32 z / 256 / 256 % 256) (of_z w32 z / 256 / 256 / 256 % 256)) ≡ z
int_back z f = ap (to_z w32) (word_back (of_z w32 z) (Fits-of_z f).fits) ∙ to_z-of_z f

pub int_forth : (a b c d : ℕ) → a < 256 → b < 256 → c < 256 → d < 256 → int_bytes (to_z w32 (number32 a b c d)) ≡ a ∷ b ∷ c ∷ d ∷ []
int_forth a b c d p q r s = ap word_bytes (of_z-to_z {w = w32} (record { fits = number32_below a b c d p q r s })) ∙ word_forth a b c d p q r s
