-- On each setting of the inputs one assignment fits the joint gates of two networks, and it has both networks' bits. Assumes nothing.
use Rattle.std.specs.Prelude.{◌≡◌, Bool, ℕ, suc, ◌+◌, ◌≤◌, ◌<◌}
use Rattle.std.proofs.Common.{sym, ap, ◌∙◌, arith}
use mathlib.Core.List.{List, [], ◌∷◌, ◌++◌, map, map-append}
use Rattle.std.proofs.Math.Decide.{dec_lt}
use Rattle.std.proofs.Math.ListN.{length, length-append, length-map}
use Rattle.basics.specs.Lists.{Each}
use Rattle.basics.specs.ListLaws.{each_imp}
use Rattle.network.specs.Threshold.{Feed, Gate, Net, Assignment, bit, values, output_bits}
use Rattle.network.specs.Limits.{signals_of}
use Rattle.network_equivalence.specs.Consistent.{BitsFrom, Fits, Ordered, WellFormed}
use Rattle.network_equivalence.proofs.ConsistentLaws.{fits_one, values_fit, values_inputs}
use Rattle.question_theory.specs.Question.{term, second_variable, second_of, over_gate}
use Rattle.question_theory.proofs.LineLaws.{second_input, second_gate}
use Rattle.question_theory.proofs.SolutionLawsGates.{over_bit}
use Rattle.question_theory.proofs.SolutionLaws.{second_bits, fits_outputs}
use Rattle.compare_theory.specs.Joint.{FitsGates}
use Rattle.compare_theory.specs.SideBySide.{joined, beside, both}

-- ---- bits and gates one after the other
bits_first : (ρ : Assignment) (n : ℕ) (bs cs : List Bool) → BitsFrom ρ n (bs ++ cs) → BitsFrom ρ n bs
bits_first ρ n [] cs h = tt
bits_first ρ n (b ∷ bs) cs h = (h.0, bits_first ρ (suc n) bs cs h.1)

bits_second : (ρ : Assignment) (n : ℕ) (bs cs : List Bool) → BitsFrom ρ n (bs ++ cs) → BitsFrom ρ (n + length bs) cs
bits_second ρ n [] cs h = rw (let e : n + 0 ≡ n = omega arith in e) h
bits_second ρ n (b ∷ bs) cs h = rw (let e : n + suc (length bs) ≡ suc n + length bs = omega arith in e) (bits_second ρ (suc n) bs cs h.1)

ordered_append : (n : ℕ) (gs hs : List Gate) → Ordered n gs → Ordered (n + length gs) hs → Ordered n (gs ++ hs)
ordered_append n [] hs o p = rw (let e : n + 0 ≡ n = omega arith in e) at p
ordered_append n (g ∷ gs) hs o p =
    (o.0, ordered_append (suc n) gs hs o.1 (rw (let e : n + suc (length gs) ≡ suc n + length gs = omega arith in e) at p))

-- ---- gates over other signals

-- feeds below n stand below m, if their new signals do
pub over_below : (φ : ℕ → ℕ) (n m : ℕ) → ((s : ℕ) → s < n → φ s < m) → (fs : List Feed) → Each (λ s. s < n) (signals_of fs)
    → Each (λ s. s < m) (signals_of (map (λ f. term (φ f.signal) f.weight) fs))
unfolding signals_of
over_below φ n m h [] o = tt
over_below φ n m h (f ∷ fs) o = (h f.signal o.0, over_below φ n m h fs o.1)

-- the second network's gates, where the first has i inputs and k gates
module _ (i k : ℕ) where
  pub second_most : (s : ℕ) → second_variable i k s ≤ s + k
  second_most s = elim (dec_lt s i) as (λ t. second_variable i k s ≤ s + k)
      [ yes j ↦ omega (arith, second_input i k s j) | no j ↦ omega (arith, second_gate i k s (omega arith)) ]

  later : (n : ℕ) → suc (n + k) ≡ suc n + k
  later n = omega arith

  second_below : (n : ℕ) → i ≤ n → (s : ℕ) → s < n → second_variable i k s < n + k
  second_below n h s l = elim (dec_lt s i) as (λ t. second_variable i k s < n + k)
      [ yes j ↦ omega (arith, second_input i k s j) | no j ↦ omega (arith, second_gate i k s (omega arith)) ]

  second_ordered : (n : ℕ) (gs : List Gate) → i ≤ n → Ordered n gs → Ordered (n + k) (map (over_gate (second_variable i k)) gs)
  unfolding over_gate
  second_ordered n [] h o = tt
  second_ordered n (g ∷ gs) h o = (
    over_below (second_variable i k) n (n + k) (second_below n h) g.feeds o.0,
    rw (later n) (second_ordered (suc n) gs (omega arith) o.1),
  )

  second_fits : (ρ : Assignment) (n : ℕ) (gs : List Gate) → i ≤ n → FitsGates ρ (n + k) (map (over_gate (second_variable i k)) gs)
      → FitsGates (λ s. ρ (second_variable i k s)) n gs
  second_fits ρ n [] h v = tt
  second_fits ρ n (g ∷ gs) h v = (
    ap ρ (second_gate i k n h) ∙ v.0 ∙ over_bit ρ (second_variable i k) g,
    second_fits ρ (suc n) gs (omega arith) (rw (later n) at v.1),
  )

-- ---- the joint gates
module _ (A B : Net) (same : A.inputs ≡ B.inputs) where
  -- an assignment that fits the joint gates fits both networks
  pub fits_first : (σ : Assignment) → FitsGates σ A.inputs (joined A B) → Fits σ A
  unfolding joined
  fits_first σ h = bits_first σ A.inputs (map (bit σ) A.gates) _ (rw map-append at h)

  pub fits_second : (σ : Assignment) → FitsGates σ A.inputs (joined A B) → Fits (second_bits A σ) B
  unfolding joined
  fits_second σ h = rw (← same)
      (second_fits A.inputs (length A.gates) σ A.inputs B.gates (omega arith)
      (rw length-map at (bits_second σ A.inputs (map (bit σ) A.gates) _ (rw map-append at h))))

  module _ (first : WellFormed A) (second : WellFormed B) where
    pub joined_ordered : Ordered A.inputs (joined A B)
    unfolding joined
    joined_ordered = ordered_append A.inputs A.gates _ first.ordered
        (second_ordered A.inputs (length A.gates) A.inputs B.gates (omega arith) (rw (← same) at second.ordered))

    beside_good : WellFormed (beside A B)
    unfolding joined
    beside_good = record {
      ordered = joined_ordered;
      within = each_imp (λ s. s < A.inputs + length A.gates) (λ s. s < A.inputs + length (joined A B))
          (λ s h. omega (arith, length-append A.gates (map (over_gate (second_of A)) B.gates))) A.outputs first.within;
    }

    -- every setting's joint bits fit the joint gates
    pub both_fits : (ρ : Assignment) → FitsGates (both A B ρ) A.inputs (joined A B)
    unfolding both
    both_fits ρ = values_fit (beside A B) ρ beside_good

    pub both_inputs : (ρ : Assignment) (s : ℕ) → s < A.inputs → both A B ρ s ≡ ρ s
    unfolding both
    both_inputs ρ s h = values_inputs (beside A B) ρ s h

    second_inputs : (ρ : Assignment) (s : ℕ) → s < B.inputs → second_bits A (both A B ρ) s ≡ ρ s
    second_inputs ρ s h = ap (both A B ρ) (second_input A.inputs (length A.gates) s (omega arith)) ∙ both_inputs ρ s (omega arith)

    -- the joint bits are the first network's at its signals, and the second's at the signals that stand for its own
    pub both_first : (ρ : Assignment) (s : ℕ) → s < A.inputs + length A.gates → both A B ρ s ≡ values A ρ s
    both_first ρ = fits_one A.inputs A.gates (both A B ρ) (values A ρ) first.ordered (fits_first (both A B ρ) (both_fits ρ)) (values_fit A ρ first)
        λ s h. both_inputs ρ s h ∙ sym (values_inputs A ρ s h)

    pub both_second : (ρ : Assignment) (s : ℕ) → s < B.inputs + length B.gates → both A B ρ (second_of A s) ≡ values B ρ s
    both_second ρ = fits_one B.inputs B.gates (second_bits A (both A B ρ)) (values B ρ) second.ordered (fits_second (both A B ρ) (both_fits ρ))
        (values_fit B ρ second) λ s h. second_inputs ρ s h ∙ sym (values_inputs B ρ s h)

    -- so they have both networks' output bits
    pub first_outputs_lem : (ρ : Assignment) → map (both A B ρ) A.outputs ≡ output_bits A ρ
    first_outputs_lem ρ = fits_outputs A (both A B ρ) ρ first (fits_first (both A B ρ) (both_fits ρ)) (both_inputs ρ)

    pub second_outputs : (ρ : Assignment) → map (second_bits A (both A B ρ)) B.outputs ≡ output_bits B ρ
    second_outputs ρ = fits_outputs B (second_bits A (both A B ρ)) ρ second (fits_second (both A B ρ) (both_fits ρ)) (second_inputs ρ)
