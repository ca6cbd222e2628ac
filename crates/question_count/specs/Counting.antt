-- How many ways there are to tell two networks apart: document 02, No. 13. Nothing is proved here.
use Rattle.std.specs.Prelude.{◌≡◌, Bool, ◌↔◌, ℕ, ◌-◌, ◌^◌, ◌<◌, T, length}
use Rattle.basics.specs.Lists.{all}
use Rattle.network.specs.Threshold.{Net, Assignment, frame}
use Rattle.question_theory.specs.Question.{holds, Solves, question, variables}
use Rattle.question_theory.specs.Demand.{differs, SolvesWritten}
use Rattle.question_count.specs.Sum.{sum_below, count}

-- ---- "the number of 0/1 solutions of the question"

-- the setting x, in which variable v is bit v of x, makes all lines of the question hold
unfoldable pub solves : Net → Net → ℕ → Bool
solves N M x = all (holds (frame x)) (question N M)

-- how many settings of the variables do: there are 2 to the number of variables, which the question's header says
unfoldable pub solutions : Net → Net → ℕ
solutions N M = count (2 ^ variables N M) (solves N M)

-- ---- "the sum over all frames of 2 to the power t, less 1": of 2 to the power t, less 1, for each frame

-- "t is the number of outputs that differ on the frame": of outputs, so that two that name one gate count as two
unfoldable pub differences : Net → Net → ℕ → ℕ
differences N M x = count (length N.outputs) (differs N M (frame x))

-- the frames are the numbers of as many bits as there are inputs
unfoldable pub ways : Net → Net → ℕ
ways N M = sum_below (2 ^ N.inputs) (λ x. 2 ^ differences N M x - 1)

-- ---- what is claimed

-- every 0/1 setting ρ of the variables is counted once: exactly one of the numbers has its bits, and passes the test exactly where ρ
-- solves the question, as lines and as it is written
pub record CountedOnce (N M : Net) (ρ : Assignment) : Type 0 where
  pub number : ℕ
  pub small : number < 2 ^ variables N M
  pub bits : (v : ℕ) → v < variables N M → frame number v ≡ ρ v
  pub only : (x : ℕ) → x < 2 ^ variables N M → ((v : ℕ) → v < variables N M → frame x v ≡ ρ v) → x ≡ number
  pub solved : T (solves N M number) ↔ Solves ρ (question N M)
  pub written : T (solves N M number) ↔ SolvesWritten ρ N M

-- "the number of 0/1 solutions of the question is the sum over all frames of 2 to the power t, less 1"
pub record CountClaim (N M : Net) : Type 0 where
  pub counted : solutions N M ≡ ways N M
  pub each_once : (ρ : Assignment) → CountedOnce N M ρ
