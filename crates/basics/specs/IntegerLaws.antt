-- Integers for omega: every integer z is hi z - lo z, two naturals of which one is 0, so that a sum, an order or an equation of integers
-- is a linear fact of naturals. Assumes nothing.
use Rattle.std.specs.Prelude.{◌≡◌, refl, Bool, true, false, not, cond, ◌↔◌, ℕ, zero, suc, ◌+◌, ◌*◌, ◌-◌, ◌≤◌, ◌<◌, T, ltb, ℤ, pos, negsuc, neg_ℤ, ◌+ℤ◌, ◌-ℤ◌, ◌*ℤ◌}
use Rattle.std.proofs.Common.{ap, ◌∙◌, true≢false, ltb→lt, nltb→le, leb→le}
use Rattle.std.proofs.lemmas.Bool.{false≢true}
use native.Mathlib.Omega.{arith}
use Rattle.std.proofs.Math.Dec.{nleb→lt}
use Rattle.std.proofs.Math.IntN.{sub_ℕ}
use Rattle.std.specs.Int.Signed.{le_z}
use Rattle.basics.specs.TestLaws.{T_is, T_isnt, is_true, is_false}

unfoldable pub hi : ℤ → ℕ
hi (pos n) = n
hi (negsuc n) = 0

unfoldable pub lo : ℤ → ℕ
lo (pos n) = 0
lo (negsuc n) = suc n

sub_law : (a b : ℕ) → hi (sub_ℕ a b) + b ≡ a + lo (sub_ℕ a b)
unfolding hi lo
sub_law a b = go (ltb a b) (ltb→lt a b) (nltb→le a b)
  where
    go : (t : Bool) → (T t → a < b) → (T (not t) → b ≤ a)
        → hi (cond t (negsuc (b - suc a)) (pos (a - b))) + b ≡ a + lo (cond t (negsuc (b - suc a)) (pos (a - b)))
    go true h k = omega (arith, h tt)
    go false h k = omega (arith, k tt)

pub add_law : (a b : ℤ) → hi (a +ℤ b) + (lo a + lo b) ≡ hi a + hi b + lo (a +ℤ b)
unfolding hi lo
add_law (pos a) (pos b) = omega arith
add_law (pos a) (negsuc b) = omega (arith, sub_law a (suc b))
add_law (negsuc a) (pos b) = omega (arith, sub_law b (suc a))
add_law (negsuc a) (negsuc b) = omega arith

neg_hi : (a : ℤ) → hi (neg_ℤ a) ≡ lo a
unfolding hi lo
neg_hi (pos zero) = refl
neg_hi (pos (suc n)) = refl
neg_hi (negsuc n) = refl

neg_lo : (a : ℤ) → lo (neg_ℤ a) ≡ hi a
unfolding hi lo
neg_lo (pos zero) = refl
neg_lo (pos (suc n)) = refl
neg_lo (negsuc n) = refl

mul_hi : (k : ℕ) (a : ℤ) → hi (pos k *ℤ a) ≡ k * hi a
unfolding hi lo
mul_hi k (pos a) = refl
mul_hi k (negsuc a) = neg_hi (pos (k * suc a)) ∙ omega arith

mul_lo : (k : ℕ) (a : ℤ) → lo (pos k *ℤ a) ≡ k * lo a
unfolding hi lo
mul_lo k (pos a) = omega arith
mul_lo k (negsuc a) = neg_lo (pos (k * suc a))

pub le_yes : (a b : ℤ) → le_z a b ≡ true → hi a + lo b ≤ hi b + lo a
unfolding hi lo
le_yes (pos a) (pos b) e = omega (arith, leb→le a b (T_is _ e))
le_yes (pos a) (negsuc b) e = absurd (false≢true e)
le_yes (negsuc a) (pos b) e = omega arith
le_yes (negsuc a) (negsuc b) e = omega (arith, leb→le b a (T_is _ e))

pub le_no : (a b : ℤ) → le_z a b ≡ false → hi b + lo a < hi a + lo b
unfolding hi lo
le_no (pos a) (pos b) e = omega (arith, nleb→lt a b (T_isnt _ e))
le_no (pos a) (negsuc b) e = omega arith
le_no (negsuc a) (pos b) e = absurd (true≢false e)
le_no (negsuc a) (negsuc b) e = omega (arith, nleb→lt b a (T_isnt _ e))

-- two tests are one where the orders are
pub le_same : (a b c d : ℤ) → (hi a + lo b ≤ hi b + lo a) ↔ (hi c + lo d ≤ hi d + lo c) → le_z a b ≡ le_z c d
le_same a b c d h = go (le_z a b) refl (le_z c d) refl
  where
    go : (s : Bool) → le_z a b ≡ s → (t : Bool) → le_z c d ≡ t → s ≡ t
    go true p true q = refl
    go false p false q = refl
    go true p false q = absurd (omega (arith, le_no c d q, h.0 (le_yes a b p)))
    go false p true q = absurd (omega (arith, le_no a b p, h.1 (le_yes c d q)))

ext : (a b : ℤ) → hi a + lo b ≡ hi b + lo a → a ≡ b
unfolding hi lo
ext (pos a) (pos b) e = ap pos (omega arith)
ext (pos a) (negsuc b) e = absurd (omega arith)
ext (negsuc a) (pos b) e = absurd (omega arith)
ext (negsuc a) (negsuc b) e = ap negsuc (omega arith)

-- ---- sums and differences of integers as one linear fact on naturals: write the two sides once, and let omega do the rest
infixl 6 ◌⊕◌ ◌⊖◌
infixr 7 ◌⊙◌
pub data Exp : Type 0 where
  # : ℤ → Exp
  nat : ℕ → Exp
  ◌⊕◌ : Exp → Exp → Exp
  ◌⊖◌ : Exp → Exp → Exp
  minus : Exp → Exp
  ◌⊙◌ : ℕ → Exp → Exp

abbrev pub ev : Exp → ℤ
ev (# z) = z
ev (nat n) = pos n
ev (a ⊕ b) = ev a +ℤ ev b
ev (a ⊖ b) = ev a -ℤ ev b
ev (minus a) = neg_ℤ (ev a)
ev (k ⊙ a) = pos k *ℤ ev a

-- its positive and its negative part
abbrev mutual
  pub up : Exp → ℕ
  up (# z) = hi z
  up (nat n) = n
  up (a ⊕ b) = up a + up b
  up (a ⊖ b) = up a + down b
  up (minus a) = down a
  up (k ⊙ a) = k * up a

  pub down : Exp → ℕ
  down (# z) = lo z
  down (nat n) = 0
  down (a ⊕ b) = down a + down b
  down (a ⊖ b) = down a + up b
  down (minus a) = up a
  down (k ⊙ a) = k * down a

pub law : (e : Exp) → hi (ev e) + down e ≡ up e + lo (ev e)
law (# z) = omega arith
law (nat n) = unfold hi lo in omega arith
law (a ⊕ b) = omega (arith, law a, law b, add_law (ev a) (ev b))
law (a ⊖ b) = omega (arith, law a, law b, add_law (ev a) (neg_ℤ (ev b)), neg_hi (ev b), neg_lo (ev b))
law (minus a) = omega (arith, law a, neg_hi (ev a), neg_lo (ev a))
law (k ⊙ a) = omega (arith, ap (λ x. k * x) (law a), mul_hi k (ev a), mul_lo k (ev a))

pub le_of : (a b : Exp) → T (le_z (ev a) (ev b)) → up a + down b ≤ up b + down a
le_of a b t = omega (arith, law a, law b, le_yes (ev a) (ev b) (is_true _ t))

pub gt_of : (a b : Exp) → T (not (le_z (ev a) (ev b))) → up b + down a < up a + down b
gt_of a b t = omega (arith, law a, law b, le_no (ev a) (ev b) (is_false _ t))

pub of_le : (a b : Exp) → up a + down b ≤ up b + down a → T (le_z (ev a) (ev b))
of_le a b h = elim (le_z (ev a) (ev b)) as (λ x. le_z (ev a) (ev b) ≡ x → T x) [
  | true ↦ λ e. tt
  | false ↦ λ e. absurd (omega (arith, law a, law b, le_no (ev a) (ev b) e))
] refl

pub of_gt : (a b : Exp) → up b + down a < up a + down b → T (not (le_z (ev a) (ev b)))
of_gt a b h = elim (le_z (ev a) (ev b)) as (λ x. le_z (ev a) (ev b) ≡ x → T (not x)) [
  | false ↦ λ e. tt
  | true ↦ λ e. absurd (omega (arith, law a, law b, le_yes (ev a) (ev b) e))
] refl

pub eq_of : (a b : Exp) → up a + down b ≡ up b + down a → ev a ≡ ev b
eq_of a b h = ext (ev a) (ev b) (omega (arith, law a, law b))
