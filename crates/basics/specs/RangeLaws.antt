-- Laws of a range that runs up to an end: its next member, and a test over what is left of a table. Assumes nothing.
use Rattle.std.specs.Prelude.{◌≡◌, Bool, ◌&&◌, [], ◌∷◌, map}
use Prim.Native.Nat.{ℕ, suc, ◌+◌, ◌-◌, ◌≤◌, ◌<◌}
use Rattle.std.proofs.Common.{add-one}
use native.Mathlib.Omega.{arith}
use Rattle.basics.specs.Lists.{all, all_from, range}

-- the next member, and what is left after it
pub range_step : (a e : ℕ) → a < e → range a (e - a) ≡ a ∷ range (a + 1) (e - (a + 1))
unfolding range
range_step a e h = rw (let n : e - a ≡ suc (e - (a + 1)) = omega arith in n, add-one)

-- at the end nothing is left
pub range_end : (a e : ℕ) → e ≤ a → range a (e - a) ≡ []
unfolding range
range_end a e h = rw (let n : e - a ≡ 0 = omega arith in n)

module _ {A : Type 0} where
  -- the next test, and the tests that are left
  pub all_step : (p : A → Bool) (f : ℕ → A) (a e : ℕ) → a < e → all p (map f (range a (e - a))) ≡ p (f a) && all p (map f (range (a + 1) (e - (a + 1))))
  unfolding all
  all_step p f a e h = rw (range_step a e h)

  -- the same for a test that is given each member's number, n more than its place
  pub all_from_step : (p : ℕ → A → Bool) (f : ℕ → A) (n a e : ℕ) → a < e →
      all_from p (n + a) (map f (range a (e - a))) ≡ p (n + a) (f a) && all_from p (n + (a + 1)) (map f (range (a + 1) (e - (a + 1))))
  unfolding all_from
  all_from_step p f n a e h = rw (range_step a e h, let k : n + (a + 1) ≡ suc (n + a) = omega arith in k)
