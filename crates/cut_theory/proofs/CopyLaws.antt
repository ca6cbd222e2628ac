-- The cut by any marks, from the first gate up: how the new signals count on, and which gates are picked. Assumes nothing.
use Rattle.std.proofs.Math.Path.{◌≡◌, refl, ap}
use Rattle.std.proofs.Common.{sym}
use Rattle.std.specs.Prelude.{Bool, true, false, length, get_or}
use mathlib.Core.List.{List, [], ◌∷◌, ◌++◌}
use Prim.Native.Nat.{ℕ, zero, suc, ◌+◌, ◌-◌, ◌≤◌, ◌<◌}
use native.Mathlib.Omega.{arith}
use Rattle.std.proofs.Math.ListN.{take}
use Rattle.std.proofs.Math.Seq.{take-nil}
use Rattle.cut_theory.specs.Cut.{picked, left_out, new_signal}
use Rattle.cut_theory.proofs.PickLaws.{up_to, left_few}

-- ---- how many are left out of the first
pub left_most : (a : ℕ) (ms : List Bool) → left_out (take a ms) ≤ a
unfolding up_to
left_most a ms = let r = left_few 0 a ms in omega (arith, r)

left_kept : (a : ℕ) (ms : List Bool) → get_or ms a false ≡ true → left_out (take (suc a) ms) ≡ left_out (take a ms)
unfolding left_out
left_kept a [] e = let x : ◌≡◌ {A = ℕ} 0 1 = cc in absurd (omega arith)
left_kept zero (m ∷ ms) e = ap (λ (b : Bool). left_out (b ∷ take 0 ms)) e
left_kept (suc a) (true ∷ ms) e = left_kept a ms e
left_kept (suc a) (false ∷ ms) e = ap suc (left_kept a ms e)

left_gone : (a : ℕ) (ms : List Bool) → a < length ms → get_or ms a false ≡ false → left_out (take (suc a) ms) ≡ suc (left_out (take a ms))
unfolding left_out
left_gone a [] h e = absurd (omega arith)
left_gone zero (m ∷ ms) h e = ap (λ (b : Bool). left_out (b ∷ take 0 ms)) e
left_gone (suc a) (true ∷ ms) h e = left_gone a ms (omega arith) e
left_gone (suc a) (false ∷ ms) h e = ap suc (left_gone a ms (omega arith) e)

-- ---- new signals count on
module _ (n : ℕ) (ms : List Bool) (s : ℕ) where
  -- an input stays
  pub new_input : s < n → new_signal n ms (s + 1) ≡ new_signal n ms s + 1
  unfolding new_signal
  new_input h =
      let a : s - n ≡ 0 = omega arith in
      let b : s + 1 - n ≡ 0 = omega arith in
      let l = left_most 0 ms in
      rw (a, b) (omega (arith, l))

  step : n ≤ s → s + 1 - n ≡ suc (s - n)
  step h = omega arith

  pub new_kept : n ≤ s → get_or ms (s - n) false ≡ true → new_signal n ms (s + 1) ≡ new_signal n ms s + 1
  unfolding new_signal
  new_kept h e =
      let l = left_most (s - n) ms in
      rw (step h, left_kept (s - n) ms e) (omega (arith, l))

  pub new_gone : n ≤ s → s - n < length ms → get_or ms (s - n) false ≡ false → new_signal n ms (s + 1) ≡ new_signal n ms s
  unfolding new_signal
  new_gone h k e =
      let l = left_most (s - n) ms in
      rw (step h, left_gone (s - n) ms k e) (omega (arith, l))

  pub new_most : new_signal n ms s ≤ s
  unfolding new_signal
  new_most = omega arith

-- the first signal stays
pub new_zero : (n : ℕ) (ms : List Bool) → new_signal n ms 0 ≡ 0
unfolding new_signal
new_zero n ms = omega arith

-- ---- gates are picked one by one
module _ {A : Type 0} where
  pub picked_kept : (d : A) (g : ℕ) (ms : List Bool) (xs : List A) → g < length xs → get_or ms g false ≡ true
      → picked (take (suc g) ms) xs ≡ picked (take g ms) xs ++ (get_or xs g d ∷ [])
  unfolding picked
  picked_kept d g [] xs h e = let x : ◌≡◌ {A = ℕ} 0 1 = cc in absurd (omega arith)
  picked_kept d g (m ∷ ms) [] h e = absurd (omega arith)
  picked_kept d zero (m ∷ ms) (x ∷ xs) h e = ap (λ (b : Bool). picked (b ∷ take 0 ms) (x ∷ xs)) e
  picked_kept d (suc g) (true ∷ ms) (x ∷ xs) h e = ap (λ (l : List A). x ∷ l) (picked_kept d g ms xs (omega arith) e)
  picked_kept d (suc g) (false ∷ ms) (x ∷ xs) h e = picked_kept d g ms xs (omega arith) e

  pub picked_gone : (g : ℕ) (ms : List Bool) (xs : List A) → get_or ms g false ≡ false → picked (take (suc g) ms) xs ≡ picked (take g ms) xs
  unfolding picked
  picked_gone g [] xs e = ap (λ (l : List Bool). picked l xs) (sym (take-nil g))
  picked_gone zero (m ∷ ms) [] e = refl
  picked_gone zero (m ∷ ms) (x ∷ xs) e = ap (λ (b : Bool). picked (b ∷ take 0 ms) (x ∷ xs)) e
  picked_gone (suc g) (m ∷ ms) [] e = refl
  picked_gone (suc g) (true ∷ ms) (x ∷ xs) e = ap (λ (l : List A). x ∷ l) (picked_gone g ms xs e)
  picked_gone (suc g) (false ∷ ms) (x ∷ xs) e = picked_gone g ms xs e
