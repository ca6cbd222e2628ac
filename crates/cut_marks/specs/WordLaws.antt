-- Marks as the bits of a word: no mark at first, the mark of a gate, and a mark more. Assumes nothing.
use Rattle.std.specs.Prelude.{◌≡◌, ◌≢◌, ℕ, zero, suc, ◌+◌, ◌*◌, ◌-◌, ◌/◌, ◌%◌, ◌^◌, ◌<◌, eqb, get_or, set, length, replicate}
use Rattle.std.proofs.Math.Path.{refl}
use Rattle.std.proofs.Common.{sym, ap, ◌∙◌, one-mul, mul_assoc, mod-lt, arith, pow-add, shl_exact}
use Rattle.std.proofs.Math.Bool.{true, false}
use Rattle.std.proofs.Math.Nat.{div-eq_of_lt}
use Rattle.std.proofs.Math.Decide.{dec_lt}
use Rattle.std.specs.Int.Bits.{bit_or, or_zero_r, shifted_even}
use Rattle.std.proofs.lemmas.Nat.{or_shr, or_mod, shl-shr}
use Rattle.std.proofs.Math.Pow.{pow-lt}
use Rattle.basics.specs.Lists.{range}
use Rattle.basics.specs.ListLaws.{length_tab, get_or_tab}
use Rattle.basics.specs.TableLaws.{tab_set}
use Rattle.network.specs.Threshold.{frame}
use Rattle.cut_marks.specs.Marks.{marks_of}
use Rattle.cut_marks.specs.declared.Marks.{Marks}

-- ---- a word with one bit more

-- with a bit that is 1
or_one : (b : ℕ) → b < 2 → bit_or b 1 ≡ 1
or_one zero h = refl
or_one (suc zero) h = refl
or_one (suc (suc b)) h = absurd (omega arith)

-- the other bits of a power of 2
other_bit : (g i : ℕ) → i ≢ g → 1 * 2 ^ g / 2 ^ i % 2 ≡ 0
other_bit g i n = elim (dec_lt i g) as (λ d. 1 * 2 ^ g / 2 ^ i % 2 ≡ 0) [
  | yes h ↦
      let k = g - i - 1 in
      let e : g ≡ suc k + i = omega arith in
      let up : 1 * 2 ^ g ≡ 1 * 2 ^ suc k * 2 ^ i =
      ap (λ (m : ℕ). 1 * 2 ^ m) e ∙ ap (λ (m : ℕ). 1 * m) (pow-add 2 (suc k) i) ∙ sym (mul_assoc 1 (2 ^ suc k) (2 ^ i)) in
      ap (λ (m : ℕ). m / 2 ^ i % 2) up ∙ ap (λ (m : ℕ). m % 2) (shl-shr (1 * 2 ^ suc k) i) ∙ shifted_even 1 k
  | no h ↦
      let l = pow-lt {i = g} {j = i} (omega arith) in
      ap (λ (m : ℕ). m % 2) (div-eq_of_lt (rw one-mul l))
]

-- bit i of a word with the bits of another
or_bit : (x y i : ℕ) → bit_or x y / 2 ^ i % 2 ≡ bit_or (x / 2 ^ i % 2) (y / 2 ^ i % 2)
or_bit x y i = ap (λ (m : ℕ). m % 2) (or_shr x y i) ∙ or_mod (x / 2 ^ i) (y / 2 ^ i) 1

-- the bit that is set, and the others
set_bit : (x g : ℕ) → frame (bit_or x (1 * 2 ^ g)) g ≡ true
unfolding frame
set_bit x g =
    let e = or_bit x (1 * 2 ^ g) g ∙ ap (λ (m : ℕ). bit_or (x / 2 ^ g % 2) (m % 2)) (shl-shr 1 g) ∙ or_one (x / 2 ^ g % 2) (mod-lt (x / 2 ^ g) (omega arith)) in
    ap (λ (m : ℕ). eqb m 1) e

kept_bit : (x g i : ℕ) → i ≢ g → frame (bit_or x (1 * 2 ^ g)) i ≡ frame x i
unfolding frame
kept_bit x g i n =
    let e = or_bit x (1 * 2 ^ g) i ∙ ap (bit_or (x / 2 ^ i % 2)) (other_bit g i n) ∙ or_zero_r (x / 2 ^ i % 2) in
    ap (λ (m : ℕ). eqb m 1) e

-- ---- marks

-- there are 128, and none is set at first
pub length_marks : (m : Marks) → length (marks_of m) ≡ 128
unfolding marks_of
length_marks m = length_tab 128 (frame m.bits)

pub blank_marks : marks_of (record { bits = 0 }) ≡ replicate 128 false
unfolding marks_of frame range
blank_marks = refl

-- in its word
pub mark_at : (m : Marks) (g : ℕ) → g < 128 → get_or (marks_of m) g false ≡ eqb (m.bits / 2 ^ g % 2) 1
unfolding marks_of frame
mark_at m g h = get_or_tab false 128 (frame m.bits) g h

-- with that mark
pub more_marks : (m : Marks) (g : ℕ) → g < 128 → marks_of (record { bits = bit_or m.bits (1 * 2 ^ g % 2 ^ 128) }) ≡ set (marks_of m) g true
unfolding marks_of
more_marks m g h = rw (shl_exact {a = 1} 1 g 128 (omega arith) (omega arith))
    (tab_set false 128 g (frame (bit_or m.bits (1 * 2 ^ g))) (frame m.bits) true h (set_bit m.bits g) λ i n. kept_bit m.bits g i n)
