-- Masks of decisions: both of two, none, one, and all but the last. Assumes nothing.
use Rattle.std.specs.Prelude.{◌≡◌, refl, Bool, true, ℕ, zero, suc, ◌+◌, ◌-◌, ◌/◌, ◌%◌, ◌^◌, ◌≤◌, ◌<◌}
use Rattle.std.proofs.Common.{sym, ap, ◌∙◌, one-mul, mod-lt, arith, eqb→eq, pow_pos, shr-shr}
use Rattle.std.proofs.Math.Nat.{div-eq_of_lt}
use Rattle.std.proofs.Math.Decide.{dec_lt}
use Rattle.std.specs.Int.Bits.{bit_or}
use Rattle.std.proofs.lemmas.Nat.{or_comm, or_shr, or_mod, shl-shr}
use Rattle.std.proofs.Math.Pow.{pow-lt, field, mod-mod-pow}
use Rattle.basics.specs.TestLaws.{T_is}
use Rattle.network.specs.Threshold.{frame}
use Rattle.compare_theory.specs.Reasons.{Meets}

-- ---- the bits of a mask
frame_bit : (m d : ℕ) → frame m d ≡ true → m / 2 ^ d % 2 ≡ 1
unfolding frame
frame_bit m d e = eqb→eq (m / 2 ^ d % 2) 1 (T_is _ e)

bit_frame : (m d : ℕ) → m / 2 ^ d % 2 ≡ 1 → frame m d ≡ true
unfolding frame
bit_frame m d e = rw e

or_bit : (x y i : ℕ) → bit_or x y / 2 ^ i % 2 ≡ bit_or (x / 2 ^ i % 2) (y / 2 ^ i % 2)
or_bit x y i = ap (λ (m : ℕ). m % 2) (or_shr x y i) ∙ or_mod (x / 2 ^ i) (y / 2 ^ i) 1

or_one : (b : ℕ) → b < 2 → bit_or 1 b ≡ 1
or_one zero h = refl
or_one (suc zero) h = refl
or_one (suc (suc b)) h = absurd (omega arith)

or_left : (a b d : ℕ) → frame a d ≡ true → frame (bit_or a b) d ≡ true
or_left a b d e = bit_frame _ d (or_bit a b d ∙ rw (frame_bit a d e) (or_one (b / 2 ^ d % 2) (mod-lt (b / 2 ^ d) (omega arith))))

-- ---- decisions met

-- what is met of two masks together is met of each
pub meets_left : {met : ℕ → Bool} (a b : ℕ) → Meets met (bit_or a b) → Meets met a
meets_left a b m = record { each = λ d e. m.each d (or_left a b d e) }

pub meets_right : {met : ℕ → Bool} (a b : ℕ) → Meets met (bit_or a b) → Meets met b
meets_right a b m = record { each = λ d e. m.each d (ap (λ (x : ℕ). frame x d) (or_comm a b) ∙ or_left b a d e) }

-- a mask below 2 ^ k has no decision from level k on
high_none : (m k d : ℕ) → m / 2 ^ k ≡ 0 → k ≤ d → m / 2 ^ d % 2 ≡ 0
high_none m k d z h =
    let e : d ≡ k + (d - k) = omega arith in
    let low : m / 2 ^ d ≡ 0 / 2 ^ (d - k) = ap (λ (n : ℕ). m / 2 ^ n) e ∙ sym (shr-shr m k (d - k)) ∙ ap (λ (n : ℕ). n / 2 ^ (d - k)) z in
    ap (λ (n : ℕ). n % 2) (low ∙ div-eq_of_lt (pow_pos (d - k)))

-- the empty mask
pub meets_none : (met : ℕ → Bool) → Meets met 0
meets_none met = record { each = λ d e. absurd (let z = high_none 0 0 d refl (omega arith) in omega (arith, frame_bit 0 d e)) }

-- one decision
pub meets_one : {met : ℕ → Bool} (l : ℕ) → Meets met (2 ^ l) → met l ≡ true
meets_one l m = m.each l (bit_frame (2 ^ l) l (ap (λ (n : ℕ). n % 2) (ap (λ (n : ℕ). n / 2 ^ l) (sym (one-mul (2 ^ l))) ∙ shl-shr 1 l)))

-- a mask of decisions below level k is met by all that agree there
pub meets_low : {met met' : ℕ → Bool} (m k : ℕ) → m / 2 ^ k ≡ 0 → ((d : ℕ) → d < k → met' d ≡ met d) → Meets met' m → Meets met m
meets_low {met} m k z same h = record {
  each = λ d e. elim (dec_lt d k) as (λ _. met d ≡ true) [
    | yes l ↦ sym (same d l) ∙ h.each d e
    | no l ↦ absurd (let n = high_none m k d z (omega arith) in omega (arith, frame_bit m d e))
  ];
}

-- the last decision and the others
pub meets_last : {met : ℕ → Bool} (m l : ℕ) → m / 2 ^ l ≡ 1 → Meets met (m % 2 ^ l) → met l ≡ true → Meets met m
meets_last {met} m l one h k = record { each = λ d e. split d e (dec_lt d l) (dec_lt l d) }
  where
    split : (d : ℕ) → frame m d ≡ true → Dec (d < l) → Dec (l < d) → met d ≡ true
    split d e (yes a) b =
        let j = l - d - 1 in
        let longer : l ≡ suc j + d = omega arith in
        let low : m % 2 ^ l / 2 ^ d ≡ m / 2 ^ d % 2 ^ suc j = ap (λ (n : ℕ). m % 2 ^ n / 2 ^ d) longer ∙ field m (suc j) d in
        let last : m / 2 ^ d % 2 ^ suc j % 2 ≡ m / 2 ^ d % 2 =
        ap (λ (n : ℕ). m / 2 ^ d % 2 ^ n % 2) (let e : suc j ≡ j + 1 = omega arith in e) ∙ mod-mod-pow (m / 2 ^ d) j 1 in
        h.each d (bit_frame (m % 2 ^ l) d (ap (λ (n : ℕ). n % 2) low ∙ last ∙ frame_bit m d e))
    split d e (no a) (no b) = ap met (let q : d ≡ l = omega arith in q) ∙ k
    split d e (no a) (yes b) =
        let up : d ≡ l + (d - l) = omega arith in
        let z : m / 2 ^ d ≡ 0 = ap (λ (n : ℕ). m / 2 ^ n) up ∙ sym (shr-shr m l (d - l)) ∙ ap (λ (n : ℕ). n / 2 ^ (d - l)) one
        ∙ div-eq_of_lt (let p = pow-lt {i = 0} {j = d - l} (omega arith) in omega arith) in
        absurd (omega (arith, frame_bit m d e, z))
