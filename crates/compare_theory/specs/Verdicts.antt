-- What a comparison of two networks answers: a refusal, or a verdict on them. Nothing is proved here.
use Rattle.std.specs.Prelude.{◌≡◌, ◌≢◌, true, List, [], ◌∷◌, ℕ, ◌≤◌}
use Rattle.basics.specs.Refusals.{Answer, accepted, ◌else◌, checks}
use Rattle.network.specs.Threshold.{Net, frame, fits_frame, output_bits}
use Rattle.question_theory.specs.Question.{alike}

-- "alike": on every frame that 10 does not refuse every output has the same bit in both by the threshold rule
abbrev pub AlikeOnFrames : Net → Net → Type 0
AlikeOnFrames N M = (x : ℕ) → fits_frame N.inputs x ≡ true → output_bits N (frame x) ≡ output_bits M (frame x)

-- "apart" on a frame: 10 does not refuse it, and some output has another bit
pub record ApartOn (N M : Net) (x : ℕ) : Type 0 where
  pub fits : fits_frame N.inputs x ≡ true
  pub differ : output_bits N (frame x) ≢ output_bits M (frame x)

-- the three numbers of an answer: the verdict, 0 alike, 1 apart and 2 undecided; a frame on which they are apart, and 0 if they are not; and the
-- steps, which the budget bounds. Which frame is given is left free, and so is the verdict 2 for networks with more than 20 inputs
pub record Verdict (N M : Net) (budget verdict frame steps : ℕ) : Type 0 where
  pub one_of_three : verdict ≤ 2
  pub alike : verdict ≡ 0 → AlikeOnFrames N M
  pub apart : verdict ≡ 1 → ApartOn N M frame
  pub no_frame : verdict ≢ 1 → frame ≡ 0
  pub decided : N.inputs ≤ 20 → verdict ≢ 2
  pub few_steps : steps ≤ budget

-- two networks that can be compared
pub record Pair : Type 0 where
  pub first : Net
  pub second : Net

abbrev pub pair_of : Net → Net → Pair
pair_of N M = record { first = N; second = M }

-- "unlike networks" (19) are not compared
unfoldable pub comparable : Net → Net → Answer Pair
comparable N M = checks ((alike N M else 19) ∷ []) (accepted (pair_of N M))
