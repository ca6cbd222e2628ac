-- The settings of at most 16 feeds by halves, and the thresholds that are left for the low half. Assumes nothing.
use Rattle.std.specs.Prelude.{◌≡◌, Bool, true, false, List, ℕ, ◌+◌, ◌-◌, ◌*◌, ◌/◌, ◌%◌, ◌^◌, ◌≤◌, ◌<◌, ℤ, nat_abs, ◌+ℤ◌, ◌-ℤ◌, get_or}
use Rattle.std.proofs.Common.{sym, ◌∙◌, pow-add, pow_mono}
use Rattle.std.proofs.Math.Path.{ap}
use Rattle.std.proofs.Math.Bool.{cond}
use Rattle.std.proofs.Math.Decide.{dec_lt}
use native.Mathlib.Omega.{arith}
use Rattle.std.proofs.Math.IntN.{pos}
use Rattle.std.specs.Int.Signed.{le_z}
use Rattle.basics.specs.IntegerLaws.{#, ◌⊕◌, ◌⊖◌, ◌⊙◌, law, le_same}
use Rattle.basics.specs.SizeLaws.{size_sub}
use Rattle.gate_sums.specs.Tables.{sum_from}
use Rattle.fold_theory.specs.Aligned.{mix, composed_bit, mixed_threshold, clears}
use Rattle.fold_theory.specs.declared.Thresholds.{Thresholds}
use Rattle.pair_theory.specs.Alignments.{ThresholdsWithin}
use Rattle.pair_clearing.specs.Clearing.{reduced}

-- ---- settings by halves

-- a setting of the high half and one of the low half
pub record SettingHalves (count lows high low : ℕ) : Type 0 where
  pub inside : high * lows + low < 2 ^ count
  pub same : high * lows + low ≡ 256 * high + low
  pub low_half : (high * lows + low) % 256 ≡ low
  pub high_half : (high * lows + low) / 256 ≡ high

pub halved : (count highs lows high low : ℕ) → count ≤ 16 → highs ≡ 2 ^ (count - 8) → lows ≡ 2 ^ (count - (count - 8))
    → high < highs → low < lows → SettingHalves count lows high low
halved count highs lows high low few a b h l = elim (dec_lt count 8) as (λ d. SettingHalves count lows high low) [
  | yes k ↦
      let none : count - 8 ≡ 0 = omega arith in
      let own : count - (count - 8) ≡ count = omega arith in
      let one : highs ≡ 1 = a ∙ ap (λ (n : ℕ). 2 ^ n) none in
      let all : lows ≡ 2 ^ count = b ∙ ap (λ (n : ℕ). 2 ^ n) own in
      let p = pow_mono {i = count} {j = 8} (omega arith) in
      let z : high ≡ 0 = omega arith in
      rw z (record { inside = omega arith; same = omega arith; low_half = omega arith; high_half = omega arith })
  | no k ↦
      let own : count - (count - 8) ≡ 8 = omega arith in
      let whole : count ≡ count - 8 + 8 = omega arith in
      let eight : lows ≡ 256 = b ∙ ap (λ (n : ℕ). 2 ^ n) own in
      let n : 2 ^ count ≡ 2 ^ (count - 8) * 256 = ap (λ (m : ℕ). 2 ^ m) whole ∙ pow-add 2 (count - 8) 8 in
      rw eight (record { inside = omega arith; same = omega arith; low_half = omega arith; high_half = omega arith })
]

-- all settings, by halves
pub halves_all : (count highs lows : ℕ) → highs ≡ 2 ^ (count - 8) → lows ≡ 2 ^ (count - (count - 8)) → highs * lows ≡ 2 ^ count
halves_all count highs lows a b = rw (a, b) (sym (pow-add 2 (count - 8) (count - (count - 8))) ∙ ap (λ (n : ℕ). 2 ^ n) (omega arith))

-- no half has more than 256 settings
pub half_few : (count lows : ℕ) → lows ≡ 2 ^ (count - (count - 8)) → lows ≤ 256
half_few count lows b = let p = pow_mono {i = count - (count - 8)} {j = 8} (omega arith) in omega arith

pub high_few : (count highs : ℕ) → count ≤ 16 → highs ≡ 2 ^ (count - 8) → highs ≤ 256
high_few count highs few a = let p = pow_mono {i = count - 8} {j = 8} (omega arith) in omega arith

-- a setting's sum, by its halves
pub sum_halves : (sums : List ℤ) (count lows high low : ℕ) → SettingHalves count lows high low
    → sum_from sums (high * lows + low) ≡ get_or sums low (pos 0) +ℤ get_or sums (256 + high) (pos 0)
unfolding sum_from
sum_halves sums count lows high low h = rw (h.low_half, h.high_half)

-- ---- the thresholds of the low half

-- a sum reaches what is left where with the high half's part it reaches the whole
reach : (t x s : ℤ) → le_z (t -ℤ x) s ≡ le_z t (s +ℤ x)
reach t x s =
    let a = law (# t ⊖ # x) in
    let b = law (# s ⊕ # x) in
    le_same (t -ℤ x) s t (s +ℤ x) (λ h. omega arith, λ h. omega arith)

-- a choice of equals
cond_both : (b : Bool) {p q r s : Bool} → p ≡ r → q ≡ s → cond b p q ≡ cond b r s
cond_both true e f = e
cond_both false e f = f

composed_reduced : (t : Thresholds) (x y su sv : ℤ) → composed_bit (reduced t x y) su sv ≡ composed_bit t (su +ℤ x) (sv +ℤ y)
unfolding composed_bit reduced
composed_reduced t x y su sv = rw (reach t.own x su) (elim (le_z t.own (su +ℤ x)) as
    (λ b. le_z (cond b (t.on -ℤ y) (t.off -ℤ y)) sv ≡ le_z (cond b t.on t.off) (sv +ℤ y))
    [ true ↦ reach t.on y sv | false ↦ reach t.off y sv ])

module _ (t : Thresholds) (k l : ℕ) (x y su sv : ℤ) where
  -- the merged gate's sum less its threshold is the same
  mix_reduced : (a : ℤ) → le_z (mixed_threshold (reduced t x y) k l +ℤ a) (mix k l su sv) ≡ le_z (mixed_threshold t k l +ℤ a) (mix k l (su +ℤ x) (sv +ℤ y))
  unfolding mixed_threshold reduced
  mix_reduced a =
      let p = law (k ⊙ (# t.own ⊖ # x) ⊕ l ⊙ (# t.on ⊖ # y) ⊕ # a) in
      let q = law (k ⊙ # su ⊕ l ⊙ # sv) in
      let r = law (k ⊙ # t.own ⊕ l ⊙ # t.on ⊕ # a) in
      let s = law (k ⊙ (# su ⊕ # x) ⊕ l ⊙ (# sv ⊕ # y)) in
      le_same (mix k l (t.own -ℤ x) (t.on -ℤ y) +ℤ a) (mix k l su sv) (mix k l t.own t.on +ℤ a) (mix k l (su +ℤ x) (sv +ℤ y))
      (λ h. omega arith, λ h. omega arith)

  mix_reduced_below : (a : ℤ) → le_z (mix k l su sv) (mixed_threshold (reduced t x y) k l -ℤ a) ≡ le_z (mix k l (su +ℤ x) (sv +ℤ y)) (mixed_threshold t k l -ℤ a)
  unfolding mixed_threshold reduced
  mix_reduced_below a =
      let p = law (k ⊙ (# t.own ⊖ # x) ⊕ l ⊙ (# t.on ⊖ # y) ⊖ # a) in
      let q = law (k ⊙ # su ⊕ l ⊙ # sv) in
      let r = law (k ⊙ # t.own ⊕ l ⊙ # t.on ⊖ # a) in
      let s = law (k ⊙ (# su ⊕ # x) ⊕ l ⊙ (# sv ⊕ # y)) in
      le_same (mix k l su sv) (mix k l (t.own -ℤ x) (t.on -ℤ y) -ℤ a) (mix k l (su +ℤ x) (sv +ℤ y)) (mix k l t.own t.on -ℤ a)
      (λ h. omega arith, λ h. omega arith)

  -- a setting clears where it does so in its block
  pub clears_reduced : clears (reduced t x y) k l su sv ≡ clears t k l (su +ℤ x) (sv +ℤ y)
  unfolding clears reduced
  clears_reduced =
      let high = le_z (mixed_threshold (reduced t x y) k l +ℤ pos t.board.on) (mix k l su sv) in
      let low = le_z (mix k l su sv) (mixed_threshold (reduced t x y) k l -ℤ pos t.board.off) in
      ap (λ (b : Bool). cond b high low) (composed_reduced t x y su sv)
      ∙ cond_both (composed_bit t (su +ℤ x) (sv +ℤ y)) (mix_reduced (pos t.board.on)) (mix_reduced_below (pos t.board.off))

-- thresholds of two gates, for the sums of whole settings
pub near_wider : (t : Thresholds) → ThresholdsWithin 2000000 t → ThresholdsWithin 10000000 t
near_wider t n = record { own_small = omega (arith, n.own_small); on_small = omega (arith, n.on_small); off_small = omega (arith, n.off_small) }

-- what is left is no more than the threshold and 8 weights
pub reduced_near : (t : Thresholds) (x y : ℤ) → ThresholdsWithin 2000000 t → nat_abs x ≤ 8000000 → nat_abs y ≤ 8000000 → ThresholdsWithin 10000000 (reduced t x y)
unfolding reduced
reduced_near t x y n h k = record {
  own_small = omega (arith, n.own_small, size_sub t.own x);
  on_small = omega (arith, n.on_small, size_sub t.on y);
  off_small = omega (arith, n.off_small, size_sub t.off y);
}
