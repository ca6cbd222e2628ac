-- The number of 0/1 solutions of the question is the sum over all frames of 2 to the power t, less 1. A setting of the variables is a
-- frame a, the bits y of the first network's gates, the bits z of the second's, and the bits c of the outputs' variables; it is a
-- solution exactly where y and z are what the networks compute on a, and c chooses at least one output, all of them among those that
-- differ. What is defined here serves proofs only. Assumes nothing.
use Rattle.std.specs.Prelude.{◌≡◌, refl, ◌↔◌, T}
use Rattle.std.proofs.Common.{ap, ◌∙◌}
use Prim.Native.Nat.{ℕ, ◌+◌, ◌-◌, ◌^◌, ◌<◌}
use native.Mathlib.Omega.{arith}
use Rattle.std.proofs.Math.ListN.{length}
use Rattle.basics.specs.ListLaws.{each_of, of_each}
use Rattle.basics.specs.TestLaws.{refuted}
use Rattle.network.specs.Threshold.{Net, Assignment, frame, digit}
use Rattle.network.specs.Sound.{Sound}
use Rattle.network_equivalence.specs.Consistent.{Fits, WellFormed}
use Rattle.network_equivalence.proofs.ConsistentLaws.{sound_good}
use Rattle.question_theory.specs.Question.{holds, Solves, first_difference, question, variables}
use Rattle.question_theory.specs.Demand.{differs}
use Rattle.question_theory.proofs.SolutionLaws.{second_bits, Apart, Solution, solves_is, fits_outputs, differs_one}
use Rattle.question_theory.proofs.LineLaws.{second_input, second_gate}
use Rattle.question_count.specs.Sum.{sum_below}
use Rattle.question_count.proofs.SumLaws.{sum_same, sum_below_none, sum_only, sum_bits}
use Rattle.question_count.proofs.SettingLaws.{setting, at_inputs, at_first, at_second, at_difference}
use Rattle.question_count.proofs.ChoiceLaws.{ChoiceOfBits, count_choices}
use Rattle.question_count.specs.Counting.{solves, solutions, differences, ways}
use Rattle.question_count.proofs.GateLaws.{gate_word, gate_word_below, fits_word}

-- the test of a setting is that it solves the question
pub solves_lines : (N M : Net) (x : ℕ) → T (solves N M x) ↔ Solves (frame x) (question N M)
unfolding solves
solves_lines N M x = (each_of (holds (frame x)) _ (λ l t. t) (question N M), of_each (holds (frame x)) _ (λ l t. t) (question N M))

-- ---- which settings are solutions
module _ (N M : Net) (gn : WellFormed N) (gm : WellFormed M) (ei : N.inputs ≡ M.inputs) (eo : length N.outputs ≡ length M.outputs) where
  -- y and z are what the networks compute on the frame a, and c chooses among the outputs that differ
  record Told (a y z c : ℕ) : Type 0 where
    first_bits : y ≡ gate_word N (frame a)
    second_bits_lem : z ≡ gate_word M (frame a)
    choice : ChoiceOfBits (length N.outputs) (differs N M (frame a)) c

  module _ (a y z c : ℕ) (ha : a < 2 ^ N.inputs) (hy : y < 2 ^ length N.gates) (hz : z < 2 ^ length M.gates) where
    -- the bits of the variables, and of the second network's signals among them
    σ : Assignment
    σ = frame (setting N M a y z c)

    τ : Assignment
    τ = second_bits N σ

    first_inputs : (s : ℕ) → s < N.inputs → σ s ≡ frame a s
    unfolding σ
    first_inputs = at_inputs N M a y z c

    second_inputs : (s : ℕ) → s < M.inputs → τ s ≡ frame a s
    unfolding τ
    second_inputs s h = rw (second_input N.inputs (length N.gates) s (omega arith)) (first_inputs s (omega arith))

    second_gates : (s : ℕ) → s < length M.gates → τ (M.inputs + s) ≡ frame z s
    unfolding σ τ
    second_gates s h =
        let e : M.inputs + s + length N.gates ≡ N.inputs + length N.gates + s = omega arith in
        rw (second_gate N.inputs (length N.gates) (M.inputs + s) (omega arith), e) (at_second N M a y z c ha hy s h)

    first_is : Fits σ N ↔ (y ≡ gate_word N (frame a))
    unfolding σ
    first_is = fits_word N gn σ (frame a) y hy first_inputs (at_first N M a y z c ha)

    second_is : Fits τ M ↔ (z ≡ gate_word M (frame a))
    second_is = fits_word M gm τ (frame a) z hz second_inputs second_gates

    -- output j has different bits in a setting that fits both networks exactly where it differs on the frame
    apart_differs : Fits σ N → Fits τ M → (j : ℕ) → Apart N M σ j ↔ T (differs N M (frame a) j)
    unfolding differs τ
    apart_differs f g j =
        rw (fits_outputs N σ (frame a) gn f first_inputs, fits_outputs M τ (frame a) gm g second_inputs) (let d = differs_one _ _ in (d.1, d.0))

    difference_bit : (j : ℕ) → σ (first_difference N M + j) ≡ frame c j
    unfolding σ
    difference_bit = at_difference N M a y z c ha hy hz

    solution_told : Solution N M σ ↔ Told a y z c
    unfolding τ
    solution_told = (
      λ s. record {
        first_bits = first_is.0 s.first_fits;
        second_bits_lem = second_is.0 s.second_fits;
        choice = record {
          only = λ j h t. (apart_differs s.first_fits s.second_fits j).0 (s.apart j h (rw (difference_bit j) t));
          some = let o = s.some_one in (o.0, o.1, rw (difference_bit o.0) at o.2);
        };
      },
      λ t.
          let f = first_is.1 t.first_bits in
          let g = second_is.1 t.second_bits_lem in
          record {
            first_fits = f;
            second_fits = g;
            apart = λ j h k. (apart_differs f g j).1 (t.choice.only j h (rw (difference_bit j) at k));
            some_one = let o = t.choice.some in (o.0, o.1, rw (difference_bit o.0) o.2);
          },
    )

    solves_told : T (solves N M (setting N M a y z c)) ↔ Told a y z c
    unfolding σ
    solves_told = (
      λ t. solution_told.0 ((solves_is N M σ eo).0 ((solves_lines N M (setting N M a y z c)).0 t)),
      λ t. (solves_lines N M (setting N M a y z c)).1 ((solves_is N M σ eo).1 (solution_told.1 t)),
    )

  -- ---- counting them
  solved : (a y z c : ℕ) → ℕ
  solved a y z c = digit (solves N M (setting N M a y z c))

  -- one frame: only one y and one z serve, and 2 to the power t, less 1, of the c
  frame_count : (a : ℕ) → a < 2 ^ N.inputs
      → sum_below (2 ^ length N.gates) (λ y. sum_below (2 ^ length M.gates) (λ z. sum_below (2 ^ length N.outputs) (λ c. solved a y z c)))
      ≡ 2 ^ differences N M a - 1
  unfolding solved differences
  frame_count a ha =
      sum_only (2 ^ length N.gates) y₀ _ hy (λ y h k. sum_below_none _ _ λ z j. sum_below_none _ _ λ c i. untold y z c h j λ t. k t.first_bits)
      ∙ sum_only (2 ^ length M.gates) z₀ _ hz (λ z j k. sum_below_none _ _ λ c i. untold y₀ z c hy j λ t. k t.second_bits_lem)
      ∙ count_choices (length N.outputs) (differs N M (frame a)) (λ c. solves N M (setting N M a y₀ z₀ c)) (λ c h. (
        λ t. ((solves_told a y₀ z₀ c ha hy hz).0 t).choice,
        λ k. (solves_told a y₀ z₀ c ha hy hz).1 (record { first_bits = refl; second_bits_lem = refl; choice = k }),
      ))
    where
      y₀ : ℕ
      y₀ = gate_word N (frame a)

      z₀ : ℕ
      z₀ = gate_word M (frame a)

      hy : y₀ < 2 ^ length N.gates
      hy = gate_word_below N gn (frame a)

      hz : z₀ < 2 ^ length M.gates
      hz = gate_word_below M gm (frame a)

      untold : (y z c : ℕ) → y < 2 ^ length N.gates → z < 2 ^ length M.gates → (Told a y z c → ⊥) → solved a y z c ≡ 0
      untold y z c h j k = ap digit (refuted (solves N M (setting N M a y z c)) λ t. k ((solves_told a y z c ha h j).0 t))

  settings_count : solutions N M ≡ ways N M
  unfolding solutions ways variables first_difference solved
  settings_count =
      sum_bits (first_difference N M) (length N.outputs) (λ x. digit (solves N M x))
      ∙ sum_bits (N.inputs + length N.gates) (length M.gates) _
      ∙ sum_bits N.inputs (length N.gates) _
      ∙ sum_same (2 ^ N.inputs) _ _ frame_count

pub solutions_counted : (N M : Net) → Sound N → Sound M → N.inputs ≡ M.inputs → length N.outputs ≡ length M.outputs
    → solutions N M ≡ ways N M
solutions_counted N M sn sm ei eo = settings_count N M (sound_good N sn) (sound_good M sm) ei eo
