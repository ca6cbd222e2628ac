-- The first lane of bytes, by their number and their first two. Assumes nothing.
use Rattle.std.specs.Prelude.{◌≡◌, refl, Bool, true, false, cond, List, [], ◌∷◌, ℕ, zero, suc, ◌+◌, ◌-◌, ◌≤◌, ◌<◌, length, get_or, take}
use Rattle.std.proofs.Common.{sym, ap, ◌∙◌, arith, le-leb}
use Rattle.std.proofs.lemmas.Bool.{false≢true, lt-leb}
use Rattle.alley_theory.specs.Alley.{whole, cut_short, lane_length}
use Rattle.alley_theory.specs.Answers.{lane_at, nothing, front}
use Rattle.alley_theory.specs.Writes.{lane_by, front_by, cut_off, FoundIn}
use Rattle.alley_theory.specs.declared.Found.{Found}

-- bytes taken are a lane
pub front_taken : (s : List ℕ) (complete : Bool) (n : ℕ) → (n ≡ 0 → ⊥) → front_by s complete n ≡ lane_at n (lane_by s complete n)
front_taken s complete zero z = absurd (z refl)
front_taken s complete (suc n) z = refl

-- the length that the first two bytes say
abbrev pub length_said : List ℕ → ℕ
length_said s = lane_length (get_or s 0 0) (get_or s 1 0)

cut_within : (last : Bool) (n : ℕ) → cond last n 0 ≤ n
cut_within true n = omega arith
cut_within false n = omega arith

-- the bytes end before the lane does
pub found_cut : (last : Bool) (s : List ℕ) → (2 ≤ length s → length s - 2 < length_said s) → {f : Found} → f ≡ cut_off last (length s) → FoundIn last s f
unfolding front
found_cut last s h e = rw e (record { inside = record { within = cut_within last (length s); long = λ d. absurd (false≢true d) }; is = go s h })
  where
    none : (s : List ℕ) (last : Bool) → front_by s false (cond last 0 0) ≡ front_by s false 0
    none s true = refl
    none s false = refl

    some : (s : List ℕ) (last : Bool) (n k : ℕ) → suc n ≡ k → front_by s false (cond last (suc n) 0) ≡ cond last (lane_at k cut_short) nothing
    some s true n k e = ap (λ (j : ℕ). lane_at j cut_short) e
    some s false n k e = refl

    go : (s : List ℕ) → (2 ≤ length s → length s - 2 < length_said s) → front_by s false (cond last (length s) 0) ≡ front last s
    go [] h = none [] last
    go (low ∷ []) h = some (low ∷ []) last 0 1 refl
    go (low ∷ high ∷ s) h =
        rw (lt-leb (lane_length low high) (length s) (omega (arith, h (omega arith)))) (some (low ∷ high ∷ s) last (suc (length s)) (2 + length s) (omega arith))

-- the whole lane is there
pub found_whole : (last : Bool) (s : List ℕ) → 2 ≤ length s → length_said s ≤ length s - 2 → {n : ℕ} → n ≡ 2 + length_said s
    → FoundIn last s (record { taken = n; complete = true })
unfolding front
found_whole last [] h k e = absurd (omega arith)
found_whole last (low ∷ []) h k e = absurd (omega arith)
found_whole last (low ∷ high ∷ s) h k {n} e =
    let size = lane_length low high in
    record {
      inside = record { within = omega arith; long = λ d. omega arith };
      is = front_taken (low ∷ high ∷ s) true n (λ z. omega arith)
          ∙ ap (λ (j : ℕ). lane_at n (whole (take j s))) (let d : n - 2 ≡ size = omega arith in d)
          ∙ ap (λ (j : ℕ). lane_at j (whole (take size s))) e
          ∙ sym (rw (le-leb size (length s) (omega arith)));
    }
