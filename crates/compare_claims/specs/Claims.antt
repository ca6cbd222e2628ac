-- What is claimed of comparing two records. Nothing is proved here.
use Rattle.std.specs.Prelude.{◌≡◌, ◌≢◌, ◌↔◌, true, false, ◌&&◌, ℕ, ◌^◌, ◌≤◌, ◌<◌}
use Rattle.network.specs.Threshold.{Net, Assignment, frame, fits_frame, output_bits}
use Rattle.network.specs.Record.{net_of}
use Rattle.network.specs.declared.Network.{Network}
use Rattle.frame_reading.specs.Reading.{reading}
use Rattle.question_theory.specs.Question.{alike}
use Rattle.question_theory.specs.Demand.{HasSolution, Differ, SolvesWritten}
use Rattle.question_count.specs.Counting.{solutions, ways}
use Rattle.journal.specs.Records.{sound_whole}
use Rattle.journal.specs.declared.Record.{Record}
use Rattle.compare_networks.specs.declared.Compared.{Compared}

-- a verdict in the words of the question: alike, it has no 0/1 solution, neither its lines nor what is written, and the count of document 02, No. 13
-- is 0; apart, it has one. With at most 20 inputs the verdict is 1 exactly when some frame makes the outputs differ, and else 0
pub record QuestionAnswered (N M : Net) (verdict : ℕ) : Type 0 where
  pub unsolved : verdict ≡ 0 → HasSolution N M → ⊥
  pub unsolved_written : verdict ≡ 0 → (ρ : Assignment) → SolvesWritten ρ N M → ⊥
  pub no_way : verdict ≡ 0 → ways N M ≡ 0
  pub no_solution : verdict ≡ 0 → solutions N M ≡ 0
  pub solved : verdict ≡ 1 → HasSolution N M
  pub solved_written : verdict ≡ 1 → (ρ : Assignment) × SolvesWritten ρ N M
  pub apart_exactly : N.inputs ≤ 20 → (verdict ≡ 1) ↔ Differ N M
  pub alike_exactly : N.inputs ≤ 20 → (verdict ≡ 0) ↔ (Differ N M → ⊥)

-- what an answer says of two networks: alike, every frame that 10 does not refuse has the same output bits, and every number reads the same; apart,
-- 10 does not refuse the frame, and the output bits on it differ
pub record VerdictClaim (a b : Network) (budget : ℕ) (r : Compared) : Type 0 where
  pub code : r.code ≡ 0
  pub same_bits : r.verdict ≡ 0 → (x : ℕ) → fits_frame a.inputs x ≡ true → output_bits (net_of a) (frame x) ≡ output_bits (net_of b) (frame x)
  pub same_readings : r.verdict ≡ 0 → (x : ℕ) → reading a x ≡ reading b x
  pub fits : r.verdict ≡ 1 → fits_frame a.inputs r.frame ≡ true
  pub differ : r.verdict ≡ 1 → output_bits (net_of a) (frame r.frame) ≢ output_bits (net_of b) (frame r.frame)
  pub decided : a.inputs ≤ 20 → r.verdict ≢ 2
  pub few_steps : r.steps ≤ budget
  pub question : QuestionAnswered (net_of a) (net_of b) r.verdict

-- 20 exactly if one of the records is not sound, then 19 exactly if the counts are unlike, each with 0 for every other number; and else a verdict
pub record CompareClaim (a b : Record) (budget : ℕ) (r : Compared) : Type 0 where
  pub broken : sound_whole a && sound_whole b ≡ false → r ≡ record { code = 20; verdict = 0; frame = 0; steps = 0 }
  pub unlike : sound_whole a && sound_whole b ≡ true → alike (net_of a.network) (net_of b.network) ≡ false
      → r ≡ record { code = 19; verdict = 0; frame = 0; steps = 0 }
  pub verdict : sound_whole a && sound_whole b ≡ true → alike (net_of a.network) (net_of b.network) ≡ true
      → VerdictClaim a.network b.network budget r
