-- Little-endian 32-bit words at the front of a list of bytes, and their signed reading. Nothing is proved here.
use Rattle.std.specs.Prelude.{ℕ, ◌+◌, ◌*◌, ◌/◌, ◌%◌, List, [], ◌∷◌, ℤ}
use Rattle.basics.specs.Library.{w32, of_z}

-- the number that four bytes are, the least first
abbrev pub number32 : ℕ → ℕ → ℕ → ℕ → ℕ
number32 a b c d = a + 256 * (b + 256 * (c + 256 * d))

-- the four bytes of a number below 2 ^ 32
abbrev pub word_bytes : ℕ → List ℕ
word_bytes n = n % 256 ∷ n / 256 % 256 ∷ n / 256 / 256 % 256 ∷ n / 256 / 256 / 256 % 256 ∷ []

abbrev pub int_bytes : ℤ → List ℕ
int_bytes z = word_bytes (of_z w32 z)
