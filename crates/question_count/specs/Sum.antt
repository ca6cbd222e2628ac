-- Sums and counts over the numbers below a number. Nothing is proved here.
use Rattle.std.specs.Prelude.{Bool, ℕ, zero, suc, ◌+◌}
use Rattle.network.specs.Threshold.{digit}

-- f 0 + f 1 + .., n of them
unfoldable pub sum_below : ℕ → (ℕ → ℕ) → ℕ
sum_below zero f = 0
sum_below (suc n) f = sum_below n f + f n

-- how many numbers below n pass the test p
abbrev pub count : ℕ → (ℕ → Bool) → ℕ
count n p = sum_below n (λ x. digit (p x))
