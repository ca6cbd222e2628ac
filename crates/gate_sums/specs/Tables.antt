-- Internal: the sum of a gate's weights on a setting, and tables of such sums. A setting is a number whose bit i is the bit of feed i. Nothing is
-- proved here.
use Rattle.std.specs.Prelude.{cond, List, [], ◌∷◌, ◌≡◌, ℕ, ◌+◌, ◌/◌, ◌%◌, ◌<◌, eqb, ℤ, pos, ◌+ℤ◌, length, get_or, drop}

-- the weights whose bit is 1 on setting s, summed
unfoldable pub sum_at : List ℤ → ℕ → ℤ
sum_at [] s = pos 0
sum_at (w ∷ ws) s = cond (eqb (s % 2) 1) w (pos 0) +ℤ sum_at ws (s / 2)

-- on each setting j below n: at place j the sum of the first 8 weights, and at 256 + j the sum of the weights after them
pub record Sums (weights : List ℤ) (n : ℕ) (sums : List ℤ) : Type 0 where
  pub long : length sums ≡ 512
  pub low : (j : ℕ) → j < n → get_or sums j (pos 0) ≡ sum_at weights j
  pub high : (j : ℕ) → j < n → get_or sums (256 + j) (pos 0) ≡ sum_at (drop 8 weights) j

-- the sum on a setting: of its low and its high 8 bits
unfoldable pub sum_from : List ℤ → ℕ → ℤ
sum_from sums setting = get_or sums (setting % 256) (pos 0) +ℤ get_or sums (256 + setting / 256) (pos 0)
