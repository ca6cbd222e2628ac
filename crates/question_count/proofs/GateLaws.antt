-- An assignment fits a network exactly where the number whose bits are its gates' bits is the one that the network computes from the
-- inputs' bits: so the gates' variables can be set in one way only. What is defined here serves proofs only. Assumes nothing.
use Rattle.std.specs.Prelude.{◌≡◌, ◌↔◌, ℕ, ◌+◌, ◌-◌, ◌^◌, ◌<◌, length}
use Rattle.std.proofs.Math.Path.{sym, ap}
use Rattle.std.proofs.Common.{◌∙◌, arith}
use Rattle.std.proofs.Math.Decide.{dec_lt}
use Rattle.basics.specs.Lists.{tab}
use Rattle.network.specs.Threshold.{Net, Assignment, values, frame, word_of}
use Rattle.network_equivalence.specs.Consistent.{Fits, WellFormed}
use Rattle.network_equivalence.proofs.ConsistentLaws.{fits_one, values_fit, values_inputs}
use Rattle.question_theory.proofs.FrameLaws.{tab_below, frame_tab}
use Rattle.question_theory.proofs.SolutionLaws.{fits_local}
use Rattle.question_count.proofs.BitLaws.{tab_only}

-- the number whose bits are those of the gates, given the inputs' bits
unfoldable pub gate_word : Net → Assignment → ℕ
gate_word N f = word_of (tab (length N.gates) (λ s. values N f (N.inputs + s)))

module _ (N : Net) (good : WellFormed N) where
  -- the inputs' bits of f and the gates' bits that they give
  all_signals : (σ f : Assignment) → ((s : ℕ) → s < N.inputs → σ s ≡ f s)
      → ((s : ℕ) → s < length N.gates → σ (N.inputs + s) ≡ values N f (N.inputs + s))
      → (s : ℕ) → s < N.inputs + length N.gates → values N f s ≡ σ s
  all_signals σ f e g s h = elim (dec_lt s N.inputs) as (λ d. values N f s ≡ σ s) [
    | yes k ↦ values_inputs N f s k ∙ sym (e s k)
    | no k ↦ let i : N.inputs + (s - N.inputs) ≡ s = omega arith in rw i at (sym (g (s - N.inputs) (omega arith)))
  ]

  -- with the inputs' bits of f, an assignment fits exactly where each gate has the bit that they give
  fits_values : (σ f : Assignment) → ((s : ℕ) → s < N.inputs → σ s ≡ f s)
      → Fits σ N ↔ ((s : ℕ) → s < length N.gates → σ (N.inputs + s) ≡ values N f (N.inputs + s))
  fits_values σ f e = (
    λ h s k. fits_one N.inputs N.gates σ (values N f) good.ordered h (values_fit N f good)
        (λ r j. e r j ∙ sym (values_inputs N f r j)) (N.inputs + s) (omega arith),
    λ g. fits_local N.inputs N.gates (values N f) σ good.ordered (all_signals σ f e g) (values_fit N f good),
  )

  pub gate_word_below : (f : Assignment) → gate_word N f < 2 ^ length N.gates
  unfolding gate_word
  gate_word_below f = tab_below (length N.gates) (λ s. values N f (N.inputs + s))

  -- with the bits of y at its gates, an assignment fits exactly where y is that number
  pub fits_word : (σ f : Assignment) (y : ℕ) → y < 2 ^ length N.gates → ((s : ℕ) → s < N.inputs → σ s ≡ f s)
      → ((s : ℕ) → s < length N.gates → σ (N.inputs + s) ≡ frame y s) → Fits σ N ↔ (y ≡ gate_word N f)
  unfolding gate_word
  fits_word σ f y h e g = (
    λ k. tab_only (length N.gates) _ y h λ s j. sym (g s j) ∙ (fits_values σ f e).0 k s j,
    λ k. (fits_values σ f e).1 λ s j. g s j ∙ ap (λ (z : ℕ). frame z s) k ∙ frame_tab (length N.gates) (λ r. values N f (N.inputs + r)) s j,
  )
