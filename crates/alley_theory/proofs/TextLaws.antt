-- The lines of the sheet, part by part, as they are written, and how long they are. Assumes nothing.
use Rattle.std.specs.Prelude.{◌≡◌, ℕ, ◌+◌, ◌^◌, ◌≤◌, ◌<◌, length}
use Rattle.std.proofs.Math.Path.{refl, ap}
use mathlib.Core.List.{List, [], ◌∷◌, ◌++◌, append_assoc}
use Rattle.std.proofs.Common.{arith}
use Rattle.std.proofs.Math.ListN.{length-append}
use Rattle.basics.specs.Refusals.{Answer, accepted, refused}
use Rattle.texts.specs.Texts.{decimal}
use Rattle.texts.proofs.DecimalLaws.{decimal_short}
use Rattle.alley_theory.specs.Alley.{Size, refused_word, size_text, lane_text}
use Rattle.alley_theory.specs.Writes.{size_with}
use Rattle.alley_theory.proofs.EntryLaws.{EntryInRange}

-- ---- gates and cost
module _ (gates cost : ℕ) where
  pub size_parts : (word : List ℕ) → (word ++ decimal gates) ++ (((32 ∷ []) ++ decimal cost) ++ (10 ∷ [])) ≡ word ++ size_text (size_with gates cost)
  unfolding size_text
  size_parts word = append_assoc word (decimal gates) (((32 ∷ []) ++ decimal cost) ++ (10 ∷ []))

  pub size_length : length (size_text (size_with gates cost)) ≡ length (decimal gates) + length (decimal cost) + 2
  unfolding size_text
  size_length = simp length-append (omega arith)

-- numbers of 64 bits
pub size_short : (f : Size) → f.gates < 2 ^ 64 → f.cost < 2 ^ 64 → length (size_text f) ≤ 42
size_short f h k = omega (arith, size_length f.gates f.cost, decimal_short f.gates 19 (omega arith), decimal_short f.cost 19 (omega arith))

-- ---- a lane's line
module _ (position : ℕ) where
  pub lane_parts : (f : Size) → decimal position ++ ((32 ∷ []) ++ size_text f) ≡ lane_text position (accepted f)
  unfolding lane_text
  lane_parts f = refl

  pub refused_parts : (k : ℕ) → decimal position ++ ((refused_word ++ decimal k) ++ (10 ∷ [])) ≡ lane_text position (refused k)
  unfolding lane_text
  refused_parts k = ap (λ (l : List ℕ). decimal position ++ l) (append_assoc refused_word (decimal k) (10 ∷ []))

  pub lane_length_lem : (f : Size) → length (lane_text position (accepted f)) ≡ length (decimal position) + 1 + length (size_text f)
  unfolding lane_text
  lane_length_lem f = simp length-append (omega arith)

  pub refused_length : (k : ℕ) → length (lane_text position (refused k)) ≡ length (decimal position) + length (decimal k) + 10
  unfolding lane_text refused_word
  refused_length k = simp length-append (omega arith)

  -- 5 digits, a space, 3, a space, 10, a line feed
  pub lane_short : position ≤ 65535 → (a : Answer Size) → EntryInRange a → length (lane_text position a) ≤ 21
  lane_short p (accepted f) h = omega (
    arith,
    lane_length_lem f,
    size_length f.gates f.cost,
    decimal_short position 4 (omega arith),
    decimal_short f.gates 2 (omega (arith, h.small.0)),
    decimal_short f.cost 9 (omega (arith, h.small.1)),
  )
  lane_short p (refused k) h = omega (arith, refused_length k, decimal_short position 4 (omega arith), decimal_short k 1 (omega (arith, h.small.1)))
