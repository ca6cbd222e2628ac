-- The word of the outputs' bits, from the last output down. Assumes nothing.
use mathlib.Core.Path.{◌≡◌, refl, sym, ◌∙◌}
use mathlib.Core.Bool.{Bool, true, false}
use mathlib.Core.List.{map}
use Prim.Native.Nat.{ℕ, ◌+◌, ◌-◌, ◌*◌, ◌≤◌, ◌<◌}
use native.Mathlib.Nat.{add_comm}
use native.Mathlib.Numerals.{add-one}
use native.Mathlib.Omega.{arith}
use lib.ListN.{length, length-map}
use lib.Pow.{pow_mono}
use mir.Val.{bool_byte}
use Rattle.basics.specs.Lists.{range}
use Rattle.basics.specs.ListLaws.{length_range}
use Rattle.network.specs.Threshold.{Assignment, digit, word_of}
use Rattle.network.specs.WordLaws.{word_below}

-- a bool as a number, in the code and in the definitions
byte_digit : (b : Bool) → bool_byte b ≡ digit b
byte_digit true = refl
byte_digit false = refl

-- w is the word of the outputs from j on
pub record WordFrom (ρ : Assignment) (driver : ℕ → ℕ) (outputs j w : ℕ) : Type 0 where
  pub within : j ≤ outputs
  pub word : w ≡ word_of (map ρ (map driver (range j (outputs - j))))

module _ (ρ : Assignment) (driver : ℕ → ℕ) where
  -- the outputs from j on, n of them: output j has the lowest bit
  word_step : (j k n m : ℕ) → k ≡ j + 1 → n ≡ m + 1
      → word_of (map ρ (map driver (range j n))) ≡ digit (ρ (driver j)) + 2 * word_of (map ρ (map driver (range k m)))
  unfolding word_of range
  word_step j k n m e d = simp (e, d, add-one)

  pub word_none : (outputs : ℕ) → WordFrom ρ driver outputs outputs 0
  unfolding word_of range
  word_none outputs = record { within = omega arith; word = rw (let e : outputs - outputs ≡ 0 = omega arith in e) }

module _ {ρ : Assignment} {driver : ℕ → ℕ} {outputs j w : ℕ} (h : WordFrom ρ driver outputs j w) where
  pub word_next : 0 < j → WordFrom ρ driver outputs (j - 1) (2 * w + bool_byte (ρ (driver (j - 1))))
  word_next k = record {
    within = omega (arith, h.within);
    word = rw (byte_digit, h.word)
        (add_comm _ _ ∙ sym (word_step ρ driver (j - 1) j (outputs - (j - 1)) (outputs - j) (omega arith) (omega (arith, h.within))));
  }

  pub word_fits : outputs ≤ 16 → w < 65536
  word_fits k =
      let bits = map ρ (map driver (range j (outputs - j))) in
      let long : length bits ≤ 16 = simp (length-map, length_range) (omega arith) in
      rw h.word (omega (arith, word_below bits, pow_mono long))

  pub word_all : j ≤ 0 → w ≡ word_of (map ρ (map driver (range 0 outputs)))
  word_all k = rw (let e : j ≡ 0 = omega arith in e, let d : outputs - 0 ≡ outputs = omega arith in d) at h.word
