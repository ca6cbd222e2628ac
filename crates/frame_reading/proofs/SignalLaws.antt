-- The array of the signals' bits: a bit put into it, the inputs' bits, and the gates that are left. Assumes nothing.
use mathlib.Core.Path.{◌≡◌, refl, sym, ◌∙◌, fun_ext}
use mathlib.Core.Bool.{Bool, true, false}
use mathlib.Core.List.{List, map}
use Prim.Native.Nat.{ℕ, ◌+◌, ◌-◌, ◌*◌, ◌/◌, ◌%◌, ◌^◌, ◌≤◌, ◌<◌}
use native.Mathlib.Nat.{div-eq_of_lt, div-lt_iff_lt-mul}
use native.Mathlib.Decide.{dec_lt}
use native.Mathlib.Numerals.{add-one}
use native.Mathlib.Omega.{arith}
use lib.Dec.{eqb, eqb→eq}
use lib.ListN.{length, get_or, set, replicate, length-set, length-replicate}
use lib.Pow.{pow_pos, pow_mono}
use lib.Seq.{get_or-set_same, get_or-set_other}
use Rattle.basics.specs.Lists.{range, other}
use Rattle.basics.specs.ListLaws.{get_or_spare}
use Rattle.basics.specs.TestLaws.{T_is, cond_case, other_ne}
use Rattle.network.specs.Threshold.{Gate, Assignment, bit, assign, run, frame, fits_frame}
use Rattle.frame_reading.specs.Evaluation.{bits_in}

-- a bit put into the array is a bit assigned
bits_set : (a : List Bool) (n : ℕ) (b : Bool) → n < length a → bits_in (set a n b) ≡ assign (bits_in a) n b
unfolding assign other
bits_set a n b h = fun_ext λ s. cond_case (λ v. get_or (set a n b) s false ≡ v) (eqb s n)
    (λ t. rw (eqb→eq s n t) (get_or-set_same a n b false h))
    (λ t. get_or-set_other a n s b false (other_ne n s t))

-- ---- the inputs

-- i inputs of frame x are in the array a, and the rest of it is 0
pub record Inputs (x i : ℕ) (a : List Bool) : Type 0 where
  pub long : length a ≡ 256
  pub set_bits : (s : ℕ) → s < i → get_or a s false ≡ frame x s
  pub clear : (s : ℕ) → i ≤ s → get_or a s false ≡ false

pub inputs_none : (x : ℕ) → Inputs x 0 (replicate 256 false)
inputs_none x = record { long = length-replicate 256 false; set_bits = λ s h. absurd (omega arith); clear = λ s h. get_or_spare 256 s false }

pub inputs_next : {x i : ℕ} {a : List Bool} → Inputs x i a → i < 256 → Inputs x (i + 1) (set a i (eqb (x / 2 ^ i % 2) 1))
unfolding frame
inputs_next {x} {i} {a} h k = record {
  long = length-set a i (eqb (x / 2 ^ i % 2) 1) ∙ h.long;
  set_bits = λ s l. elim (dec_lt s i) as (λ d. get_or (set a i (eqb (x / 2 ^ i % 2) 1)) s false ≡ frame x s) [
    | yes j ↦ get_or-set_other a i s _ false (λ e. omega arith) ∙ h.set_bits s j
    | no j ↦ rw (let e : s ≡ i = omega arith in e) (get_or-set_same a i _ false (omega (arith, h.long)))
  ];
  clear = λ s l. get_or-set_other a i s _ false (λ e. omega arith) ∙ h.clear s (omega arith);
}

-- a frame that fits has no bit past the inputs
frame_past : (x n s : ℕ) → fits_frame n x ≡ true → n ≤ s → frame x s ≡ false
unfolding frame fits_frame
frame_past x n s e h =
    let z : x / 2 ^ n ≡ 0 = eqb→eq (x / 2 ^ n) 0 (T_is _ e) in
    let small : x < 1 * 2 ^ n = (div-lt_iff_lt-mul (pow_pos n)).0 (omega arith) in
    let none : x / 2 ^ s ≡ 0 = div-eq_of_lt (omega (arith, pow_mono h)) in
    rw none

pub inputs_all : {x n : ℕ} {a : List Bool} → Inputs x n a → fits_frame n x ≡ true → bits_in a ≡ frame x
inputs_all {x} {n} {a} h e = fun_ext λ s. elim (dec_lt s n) as (λ d. get_or a s false ≡ frame x s) [
  | yes j ↦ h.set_bits s j
  | no j ↦ let k : n ≤ s = omega arith in h.clear s k ∙ sym (frame_past x n s e k)
]

-- ---- the gates

-- the gates from g on, run on the bits of the array a, come to the assignment all
pub record GatesLeft (gate : ℕ → Gate) (inputs gates : ℕ) (all : Assignment) (g : ℕ) (a : List Bool) : Type 0 where
  pub within : g ≤ gates
  pub long : length a ≡ 256
  pub left : run (inputs + g) (map gate (range g (gates - g))) (bits_in a) ≡ all

run_none : (gate : ℕ → Gate) (n g m : ℕ) (ρ : Assignment) → m ≡ 0 → run n (map gate (range g m)) ρ ≡ ρ
unfolding run range
run_none gate n g m ρ e = rw e

run_next : (gate : ℕ → Gate) (n k g h m l : ℕ) (ρ : Assignment) → k ≡ n + 1 → h ≡ g + 1 → m ≡ l + 1
    → run n (map gate (range g m)) ρ ≡ run k (map gate (range h l)) (assign ρ n (bit ρ (gate g)))
unfolding run range
run_next gate n k g h m l ρ e d f = simp (e, d, f, add-one)

module _ {gate : ℕ → Gate} {inputs gates : ℕ} where
  pub gates_none : (ρ : Assignment) (a : List Bool) → length a ≡ 256 → bits_in a ≡ ρ → GatesLeft gate inputs gates (run inputs (map gate (range 0 gates)) ρ) 0 a
  gates_none ρ a l e = record {
    within = omega arith;
    long = l;
    left = rw (let p : inputs + 0 ≡ inputs = omega arith in p, let q : gates - 0 ≡ gates = omega arith in q, e);
  }

  pub gates_next : {all : Assignment} {g : ℕ} {a : List Bool} (b : Bool) → GatesLeft gate inputs gates all g a → g < gates → inputs + g < 256
      → b ≡ bit (bits_in a) (gate g) → GatesLeft gate inputs gates all (g + 1) (set a (inputs + g) b)
  gates_next {all} {g} {a} b h k l e = record {
    within = omega arith;
    long = length-set a (inputs + g) b ∙ h.long;
    left = rw (bits_set a (inputs + g) b (omega (arith, h.long)), e)
        (sym (run_next gate (inputs + g) (inputs + (g + 1)) g (g + 1) (gates - g) (gates - (g + 1)) (bits_in a) (omega arith) refl (omega arith)) ∙ h.left);
  }

  pub gates_all : {all : Assignment} {g : ℕ} {a : List Bool} → GatesLeft gate inputs gates all g a → gates ≤ g → bits_in a ≡ all
  gates_all {all} {g} {a} h k = sym (run_none gate (inputs + g) g (gates - g) (bits_in a) (omega arith)) ∙ h.left
