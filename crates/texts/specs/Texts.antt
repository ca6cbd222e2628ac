-- Text in ASCII: numbers as decimal digits, and what a text says when it is read back, strictly. Nothing is proved here.
use Rattle.std.specs.Prelude.{Bool, true, false, cond, ◌&&◌, List, [], ◌∷◌, ◌++◌, ℕ, zero, suc, ◌+◌, ◌-◌, ◌*◌, ◌/◌, ◌%◌, ltb, eqb}
use Rattle.basics.specs.Library.{Option, some, none}
use Rattle.basics.specs.Lists.{all, between}

-- ---- writing

-- the decimal digits of a number, the highest first; k is more than enough digits
unfoldable pub digits : ℕ → ℕ → List ℕ
digits zero n = []
digits (suc k) n = cond (ltb n 10) ((48 + n) ∷ []) (digits k (n / 10) ++ ((48 + n % 10) ∷ []))

unfoldable pub decimal : ℕ → List ℕ
decimal n = digits 20 n

-- ---- reading back

-- c in front of the first part
unfoldable pub prepend : ℕ → List (List ℕ) → List (List ℕ)
prepend c [] = (c ∷ []) ∷ []
prepend c (w ∷ ws) = (c ∷ w) ∷ ws

-- the parts of a text, parted by a single separator: the lines of a text, the words of a line
unfoldable pub parts : ℕ → List ℕ → List (List ℕ)
parts separator [] = [] ∷ []
parts separator (c ∷ cs) = cond (eqb c separator) ([] ∷ parts separator cs) (prepend c (parts separator cs))

-- two words are the same
unfoldable pub same_text : List ℕ → List ℕ → Bool
same_text [] [] = true
same_text [] (d ∷ ds) = false
same_text (c ∷ cs) [] = false
same_text (c ∷ cs) (d ∷ ds) = eqb c d && same_text cs ds

-- the number that decimal digits are, after a number that stands before them
unfoldable pub number_after : ℕ → List ℕ → ℕ
number_after n [] = n
number_after n (d ∷ ds) = number_after (n * 10 + (d - 48)) ds

-- a decimal digit
unfoldable pub is_digit : ℕ → Bool
is_digit c = between 48 57 c

-- the number that a word says: one digit at least, and nothing but digits
unfoldable pub number : List ℕ → Option ℕ
number [] = none
number (d ∷ ds) = cond (all is_digit (d ∷ ds)) (some (number_after 0 (d ∷ ds))) none
