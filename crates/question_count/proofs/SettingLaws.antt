-- The four parts of a setting of the question's variables: the frame a, the bits y of the first network's gates, the bits z of the
-- second's, and the bits c of the outputs' variables. What is defined here serves proofs only. Assumes nothing.
use Rattle.std.specs.Prelude.{◌≡◌, ℕ, ◌+◌, ◌*◌, ◌^◌, ◌<◌}
use Rattle.std.proofs.Common.{◌∙◌, arith}
use Rattle.std.proofs.Math.ListN.{length}
use Rattle.network.specs.Threshold.{Net, frame}
use Rattle.question_theory.specs.Question.{first_difference}
use Rattle.question_count.proofs.BitLaws.{frame_high, frame_low, bits_below}

module _ (N M : Net) (a y z c : ℕ) where
  -- the bits of the frame and of the first network's gates
  abbrev pub first_part : ℕ
  first_part = a + 2 ^ N.inputs * y

  -- .. and of the second network's gates
  abbrev pub gates_part : ℕ
  gates_part = first_part + 2 ^ (N.inputs + length N.gates) * z

  -- .. and of the outputs' variables
  abbrev pub setting : ℕ
  setting = gates_part + 2 ^ first_difference N M * c

  pub at_inputs : (s : ℕ) → s < N.inputs → frame setting s ≡ frame a s
  unfolding first_difference
  at_inputs s h = frame_low (first_difference N M) gates_part c s (omega arith)
      ∙ frame_low (N.inputs + length N.gates) first_part z s (omega arith) ∙ frame_low N.inputs a y s h

  pub at_first : a < 2 ^ N.inputs → (s : ℕ) → s < length N.gates → frame setting (N.inputs + s) ≡ frame y s
  unfolding first_difference
  at_first ha s h = frame_low (first_difference N M) gates_part c (N.inputs + s) (omega arith)
      ∙ frame_low (N.inputs + length N.gates) first_part z (N.inputs + s) (omega arith) ∙ frame_high N.inputs a y s ha

  module _ (ha : a < 2 ^ N.inputs) (hy : y < 2 ^ length N.gates) where
    first_below : first_part < 2 ^ (N.inputs + length N.gates)
    first_below = bits_below N.inputs (length N.gates) a y ha hy

    pub at_second : (s : ℕ) → s < length M.gates → frame setting (N.inputs + length N.gates + s) ≡ frame z s
    unfolding first_difference
    at_second s h = frame_low (first_difference N M) gates_part c (N.inputs + length N.gates + s) (omega arith)
        ∙ frame_high (N.inputs + length N.gates) first_part z s first_below

    pub at_difference : z < 2 ^ length M.gates → (j : ℕ) → frame setting (first_difference N M + j) ≡ frame c j
    unfolding first_difference
    at_difference hz j = frame_high (first_difference N M) gates_part c j
        (bits_below (N.inputs + length N.gates) (length M.gates) first_part z first_below hz)
