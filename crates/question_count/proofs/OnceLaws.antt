-- Every 0/1 setting of the variables is counted once: the question's lines depend only on its variables, and one number has the
-- setting's bits. Assumes nothing.
use Rattle.std.specs.Prelude.{◌≡◌, map, ◌↔◌, ℕ, ◌+◌, ◌<◌, T}
use Rattle.std.proofs.Common.{sym, arith}
use Rattle.std.proofs.Math.Decide.{dec_lt}
use Rattle.std.proofs.Math.ListN.{length}
use Rattle.basics.specs.Lists.{tab}
use Rattle.basics.specs.ListLaws.{each_imp}
use Rattle.network.specs.Threshold.{Net, Assignment, frame, word_of}
use Rattle.network.specs.Sound.{Sound}
use Rattle.network_equivalence.specs.Consistent.{Fits, WellFormed}
use Rattle.network_equivalence.proofs.ConsistentLaws.{map_same, sound_good}
use Rattle.question_theory.specs.Question.{Solves, first_difference, question, variables}
use Rattle.question_theory.proofs.SolutionLaws.{second_bits, Solution, solves_is, fits_local}
use Rattle.question_theory.proofs.FrameLaws.{tab_below, frame_tab}
use Rattle.question_theory.proofs.LineLaws.{second_input, second_gate}
use Rattle.question_theory.proofs.MeaningLaws.{solves_written}
use Rattle.question_count.specs.Counting.{solves, CountedOnce, CountClaim}
use Rattle.question_count.proofs.BitLaws.{tab_only}
use Rattle.question_count.proofs.CountLaws.{solves_lines, solutions_counted}

-- ---- one network: only the bits of its signals count
module _ (N : Net) (good : WellFormed N) (ρ σ : Assignment) (e : (s : ℕ) → s < N.inputs + length N.gates → ρ s ≡ σ s) where
  fits_same : Fits ρ N → Fits σ N
  fits_same = fits_local N.inputs N.gates ρ σ good.ordered e

  outputs_same : map ρ N.outputs ≡ map σ N.outputs
  outputs_same = map_same ρ σ N.outputs (each_imp _ _ e N.outputs good.within)

-- ---- the question: only the bits of its variables count
module _ (N M : Net) (gn : WellFormed N) (gm : WellFormed M) (ei : N.inputs ≡ M.inputs) (eo : length N.outputs ≡ length M.outputs) where
  module _ (ρ σ : Assignment) (e : (v : ℕ) → v < variables N M → ρ v ≡ σ v) where
    first_same : (s : ℕ) → s < N.inputs + length N.gates → ρ s ≡ σ s
    unfolding variables first_difference
    first_same s h = e s (omega arith)

    second_same : (s : ℕ) → s < M.inputs + length M.gates → second_bits N ρ s ≡ second_bits N σ s
    unfolding variables first_difference
    second_same s h = elim (dec_lt s N.inputs) as (λ d. second_bits N ρ s ≡ second_bits N σ s) [
      | yes k ↦ rw (second_input N.inputs (length N.gates) s k) (e s (omega arith))
      | no k ↦ rw (second_gate N.inputs (length N.gates) s (omega arith)) (e (s + length N.gates) (omega arith))
    ]

    difference_same : (j : ℕ) → j < length N.outputs → ρ (first_difference N M + j) ≡ σ (first_difference N M + j)
    unfolding variables
    difference_same j h = e (first_difference N M + j) (omega arith)

    solution_same : Solution N M ρ → Solution N M σ
    solution_same s = record {
      first_fits = fits_same N gn ρ σ first_same s.first_fits;
      second_fits = fits_same M gm (second_bits N ρ) (second_bits N σ) second_same s.second_fits;
      apart = λ j h t. rw (outputs_same N gn ρ σ first_same, outputs_same M gm (second_bits N ρ) (second_bits N σ) second_same)
          at (s.apart j h (rw (difference_same j h) t));
      some_one = let o = s.some_one in (o.0, o.1, rw (difference_same o.0 o.1) at o.2);
    }

    solves_same : Solves ρ (question N M) → Solves σ (question N M)
    solves_same h = (solves_is N M σ eo).1 (solution_same ((solves_is N M ρ eo).0 h))

-- ---- the number of a setting
module _ (N M : Net) (sn : Sound N) (sm : Sound M) (ei : N.inputs ≡ M.inputs) (eo : length N.outputs ≡ length M.outputs) where
  once : (ρ : Assignment) → CountedOnce N M ρ
  once ρ = record {
    number = x;
    small = tab_below (variables N M) ρ;
    bits = bits;
    only = tab_only (variables N M) ρ;
    solved = solved;
    written = (λ t. (solves_written N M sn sm ei ρ).1 (solved.0 t), λ h. solved.1 ((solves_written N M sn sm ei ρ).0 h));
  }
    where
      x : ℕ
      x = word_of (tab (variables N M) ρ)

      bits : (v : ℕ) → v < variables N M → frame x v ≡ ρ v
      bits = frame_tab (variables N M) ρ

      same : (σ τ : Assignment) → ((v : ℕ) → v < variables N M → σ v ≡ τ v) → Solves σ (question N M) → Solves τ (question N M)
      same = solves_same N M (sound_good N sn) (sound_good M sm) ei eo

      solved : T (solves N M x) ↔ Solves ρ (question N M)
      solved = (
        λ t. same (frame x) ρ bits ((solves_lines N M x).0 t),
        λ h. (solves_lines N M x).1 (same ρ (frame x) (λ v k. sym (bits v k)) h),
      )

  pub count_claim : CountClaim N M
  count_claim = record { counted = solutions_counted N M sn sm ei eo; each_once = once }
