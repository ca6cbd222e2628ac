-- Marks of which the first g are set: what they pick and how signals fall by them, when the gate under the last of these is left out
-- too. Assumes nothing.
use Rattle.std.specs.Prelude.{◌≡◌, Bool, true, false, T, length, get_or, take}
use Rattle.std.proofs.Math.Path.{refl, ap}
use Rattle.std.proofs.Common.{sym, ◌∙◌}
use mathlib.Core.List.{List, [], ◌∷◌, map}
use Prim.Native.Nat.{ℕ, zero, suc, ◌+◌, ◌-◌, ◌≤◌, ◌<◌}
use Rattle.std.proofs.Math.Decide.{dec_lt}
use native.Mathlib.Omega.{arith}
use Rattle.basics.specs.Lists.{Each}
use Rattle.network.specs.Threshold.{Feed, Gate}
use Rattle.network.specs.Changes.{lowered, lowered_feed, lowered_gate, remove_at}
use Rattle.network.specs.ChangeLaws.{lowered_low, lowered_high}
use Rattle.cut_theory.specs.Cut.{picked, left_out, new_signal, renamed_feed, renamed_gate}

-- marks with the first g set
unfoldable pub up_to : ℕ → List Bool → List Bool
up_to zero ms = ms
up_to (suc g) [] = []
up_to (suc g) (m ∷ ms) = true ∷ up_to g ms

-- a mark that is set already changes nothing
pub up_to_set : (g : ℕ) (ms : List Bool) → get_or ms g false ≡ true → up_to (suc g) ms ≡ up_to g ms
unfolding up_to
up_to_set g [] e = let x : ◌≡◌ {A = ℕ} 0 1 = cc in absurd (omega arith)
up_to_set zero (m ∷ ms) e = ap (λ (b : Bool). b ∷ ms) (sym e)
up_to_set (suc g) (m ∷ ms) e = ap (λ (l : List Bool). true ∷ l) (up_to_set g ms e)

pub up_to_all : (g : ℕ) (ms : List Bool) → ((i : ℕ) → i < g → get_or ms i false ≡ true) → up_to g ms ≡ ms
unfolding up_to
up_to_all zero ms h = refl
up_to_all (suc g) ms h = up_to_set g ms (h g (omega arith)) ∙ up_to_all g ms (λ i k. h i (omega arith))

-- the marks after the first g
pub up_to_after : (g : ℕ) (ms : List Bool) (i : ℕ) → g ≤ i → get_or (up_to g ms) i false ≡ get_or ms i false
unfolding up_to
up_to_after zero ms i h = refl
up_to_after (suc g) [] i h = refl
up_to_after (suc g) (m ∷ ms) zero h = absurd (omega arith)
up_to_after (suc g) (m ∷ ms) (suc i) h = up_to_after g ms i (omega arith)

-- ---- what is picked
module _ {A : Type 0} where
  -- what holds of each marked member holds of each picked one
  pub picked_each : (P : A → Type 0) (d : A) (ms : List Bool) (xs : List A) → ((i : ℕ) → i < length xs → T (get_or ms i false) → P (get_or xs i d))
      → Each P (picked ms xs)
  unfolding picked
  picked_each P d [] xs h = tt
  picked_each P d (m ∷ ms) [] h = tt
  picked_each P d (true ∷ ms) (x ∷ xs) h = (h 0 (omega arith) tt, picked_each P d ms xs λ i k t. h (suc i) (omega arith) t)
  picked_each P d (false ∷ ms) (x ∷ xs) h = picked_each P d ms xs λ i k t. h (suc i) (omega arith) t

  -- all marks set
  pub picked_all : (ms : List Bool) (xs : List A) → length ms ≡ length xs → picked (up_to (length ms) ms) xs ≡ xs
  unfolding picked up_to
  picked_all [] [] e = refl
  picked_all [] (x ∷ xs) e = absurd (omega arith)
  picked_all (m ∷ ms) [] e = absurd (omega arith)
  picked_all (m ∷ ms) (x ∷ xs) e = ap (λ (l : List A). x ∷ l) (picked_all ms xs (omega arith))

  -- at least the first g are picked
  pub picked_many : (g : ℕ) (ms : List Bool) (xs : List A) → g ≤ length ms → g ≤ length xs → g ≤ length (picked (up_to g ms) xs)
  unfolding picked up_to
  picked_many zero ms xs h k = omega arith
  picked_many (suc g) [] xs h k = absurd (omega arith)
  picked_many (suc g) (m ∷ ms) [] h k = absurd (omega arith)
  picked_many (suc g) (m ∷ ms) (x ∷ xs) h k = let r = picked_many g ms xs (omega arith) (omega arith) in omega (arith, r)

  -- member g left out
  pub picked_remove : (g : ℕ) (ms : List Bool) (xs : List A) → g < length ms → get_or ms g false ≡ false
      → remove_at g (picked (up_to (suc g) ms) xs) ≡ picked (up_to g ms) xs
  unfolding picked up_to remove_at
  picked_remove g [] xs h e = absurd (omega arith)
  picked_remove zero (m ∷ ms) [] h e = refl
  picked_remove zero (m ∷ ms) (x ∷ xs) h e = ap (λ (b : Bool). picked (b ∷ ms) (x ∷ xs)) (sym e)
  picked_remove (suc g) (m ∷ ms) [] h e = refl
  picked_remove (suc g) (m ∷ ms) (x ∷ xs) h e = ap (λ (l : List A). x ∷ l) (picked_remove g ms xs (omega arith) e)

-- ---- how many are left out
-- none of the first g
pub left_few : (g a : ℕ) (ms : List Bool) → left_out (take a (up_to g ms)) ≤ a - g
unfolding left_out up_to
left_few zero zero ms = omega arith
left_few zero (suc a) [] = omega arith
left_few zero (suc a) (true ∷ ms) = let r = left_few zero a ms in omega (arith, r)
left_few zero (suc a) (false ∷ ms) = let r = left_few zero a ms in omega (arith, r)
left_few (suc g) zero ms = omega arith
left_few (suc g) (suc a) [] = omega arith
left_few (suc g) (suc a) (m ∷ ms) = let r = left_few g a ms in omega (arith, r)

-- one more, past member g
left_step : (g a : ℕ) (ms : List Bool) → g < a → g < length ms → get_or ms g false ≡ false
    → left_out (take a (up_to g ms)) ≡ suc (left_out (take a (up_to (suc g) ms)))
unfolding left_out up_to
left_step g zero ms h k e = absurd (omega arith)
left_step g (suc a) [] h k e = absurd (omega arith)
left_step zero (suc a) (m ∷ ms) h k e = ap (λ (b : Bool). left_out (b ∷ take a ms)) e
left_step (suc g) (suc a) (m ∷ ms) h k e = left_step g a ms (omega arith) (omega arith) e

left_none : (a : ℕ) (ms : List Bool) → left_out (take a (up_to (length ms) ms)) ≡ 0
unfolding left_out up_to
left_none zero ms = refl
left_none (suc a) [] = refl
left_none (suc a) (m ∷ ms) = left_none a ms

-- ---- new signals
module _ (n g : ℕ) (ms : List Bool) where
  -- the signals before gate g's successor stay
  pub new_low : (s : ℕ) → s ≤ n + g → new_signal n (up_to g ms) s ≡ s
  unfolding new_signal
  new_low s h = let r = left_few g (s - n) ms in omega (arith, r)

  -- the others stay above
  pub new_high : (s : ℕ) → n + g ≤ s → n + g ≤ new_signal n (up_to g ms) s
  unfolding new_signal
  new_high s h = let r = left_few g (s - n) ms in omega (arith, r)

new_step : (n g : ℕ) (ms : List Bool) (s : ℕ) → g < length ms → get_or ms g false ≡ false → n + g < s
    → new_signal n (up_to (suc g) ms) s - 1 ≡ new_signal n (up_to g ms) s
unfolding new_signal
new_step n g ms s h e k = let l = left_step g (s - n) ms (omega arith) h e in omega (arith, l)

-- with gate g left out too, the signals above it fall by one
pub new_lowered : (n g : ℕ) (ms : List Bool) → g < length ms → get_or ms g false ≡ false → (s : ℕ)
    → lowered (n + g) (new_signal n (up_to (suc g) ms) s) ≡ new_signal n (up_to g ms) s
new_lowered n g ms h e s = elim (dec_lt (n + g) s) as (λ d. lowered (n + g) (new_signal n (up_to (suc g) ms) s) ≡ new_signal n (up_to g ms) s) [
  | yes k ↦ let r = new_high n (suc g) ms s (omega arith) in
      lowered_high (n + g) (new_signal n (up_to (suc g) ms) s) (omega (arith, r)) ∙ new_step n g ms s h e k
  | no k ↦ ap (lowered (n + g)) (new_low n (suc g) ms s (omega arith)) ∙ lowered_low (n + g) s (omega arith) ∙ sym (new_low n g ms s (omega arith))
]

pub new_all : (n : ℕ) (ms : List Bool) (s : ℕ) → new_signal n (up_to (length ms) ms) s ≡ s
unfolding new_signal
new_all n ms s = let r = left_none (s - n) ms in omega (arith, r)

-- ---- gates with new signals
renamed_feeds_lowered : (u : ℕ) (f h : ℕ → ℕ) → ((s : ℕ) → lowered u (f s) ≡ h s) → (fs : List Feed)
    → map (lowered_feed u) (map (renamed_feed f) fs) ≡ map (renamed_feed h) fs
unfolding lowered_feed renamed_feed
renamed_feeds_lowered u f h e [] = refl
renamed_feeds_lowered u f h e (x ∷ fs) = rw (e x.signal, renamed_feeds_lowered u f h e fs)

renamed_lowered : (u : ℕ) (f h : ℕ → ℕ) → ((s : ℕ) → lowered u (f s) ≡ h s) → (g : Gate) → lowered_gate u (renamed_gate f g) ≡ renamed_gate h g
unfolding lowered_gate renamed_gate
renamed_lowered u f h e g = λ x. record { feeds = renamed_feeds_lowered u f h e g.feeds x; threshold = g.threshold }

renamed_feeds_same : (f : ℕ → ℕ) → ((s : ℕ) → f s ≡ s) → (fs : List Feed) → map (renamed_feed f) fs ≡ fs
unfolding renamed_feed
renamed_feeds_same f e [] = refl
renamed_feeds_same f e (x ∷ fs) = rw (e x.signal, renamed_feeds_same f e fs)

renamed_same : (f : ℕ → ℕ) → ((s : ℕ) → f s ≡ s) → (g : Gate) → renamed_gate f g ≡ g
unfolding renamed_gate
renamed_same f e g = λ x. record { feeds = renamed_feeds_same f e g.feeds x; threshold = g.threshold }

-- a list of them
pub map_lowered : (u : ℕ) (f h : ℕ → ℕ) → ((s : ℕ) → lowered u (f s) ≡ h s) → (gs : List Gate)
    → map (lowered_gate u) (map (renamed_gate f) gs) ≡ map (renamed_gate h) gs
map_lowered u f h e [] = refl
map_lowered u f h e (g ∷ gs) = rw (renamed_lowered u f h e g, map_lowered u f h e gs)

pub renamed_map_same : (f : ℕ → ℕ) → ((s : ℕ) → f s ≡ s) → (gs : List Gate) → map (renamed_gate f) gs ≡ gs
renamed_map_same f e [] = refl
renamed_map_same f e (g ∷ gs) = rw (renamed_same f e g, renamed_map_same f e gs)

pub remove_map : {A B : Type 0} (f : A → B) (i : ℕ) (xs : List A) → remove_at i (map f xs) ≡ map f (remove_at i xs)
unfolding remove_at
remove_map f i [] = refl
remove_map f zero (x ∷ xs) = refl
remove_map f (suc i) (x ∷ xs) = ap (λ l. f x ∷ l) (remove_map f i xs)
