-- The turns of the loops: what a signal's byte and what it rests on become, and what a gate's rule reads. Assumes nothing.
use Rattle.std.specs.Prelude.{◌≡◌, refl, ◌⊎◌, List, ℕ, ◌+◌, ◌/◌, ◌^◌, ◌≤◌, ◌<◌, ℤ, pos, get_or, set}
use Rattle.std.proofs.Common.{◌∙◌, inr, arith, to_z, of_z, to_z-of_z, le-ltb, lt-ltb}
use Rattle.std.specs.Int.{w32}
use Rattle.std.proofs.Math.Decide.{dec_lt}
use Rattle.std.proofs.lemmas.List.{set-get_or}
use Rattle.basics.specs.SizeLaws.{size_fits}
use Rattle.compare_theory.specs.Joint.{fanin, Summable}
use Rattle.compare_theory.specs.Spans.{forced, forced_bit, room_of, room_at, settled}
use Rattle.compare_theory.specs.Reasons.{EndsOf}
use Rattle.compare_theory.proofs.DecisionLaws.{Reopening}
use Rattle.compare_theory.proofs.ReasonLaws.{Settling, settling_next}
use Rattle.compare_refutation.specs.Endings.{IfRefuted}
use Rattle.compare_refutation.specs.declared.Ending.{Ending}
use Rattle.compare_refutation.specs.declared.Ending.TheVariants.{Refuted, Worth, Spent}

-- ---- opening what rests on a level

-- a signal that rests on nothing at the level or above stays
pub reopening_stays : {level : ℕ} {rests bits₀ bits : List ℕ} (k : ℕ) → Reopening level rests bits₀ k bits
    → get_or rests k 0 / 2 ^ level ≡ 0 → Reopening level rests bits₀ (k + 1) bits
reopening_stays {level} {rests} {bits₀} {bits} k h e = record {
  kept = h.kept;
  low = λ met ρ x s b. elim (dec_lt s k) as (λ t. (2 ≤ get_or bits s 0) ⊎ (get_or rests s 0 / 2 ^ level ≡ 0))
      [ yes l ↦ h.low met ρ x s l | no l ↦ let q : s ≡ k = omega arith in rw q (inr e) ];
}

-- ---- the feeds settled, one by one
module _ {bits₀ rests₀ wires : List ℕ} {weights : List ℤ} {goal : ℕ} {room : ℤ} {why : ℕ} {bits rests : List ℕ} (i : ℕ) (l : i < fanin wires)
    (two : goal < 2) (there : get_or wires (1 + i) 0 < 296) (h : Settling bits₀ rests₀ wires weights goal room why bits rests) where
  abbrev s : ℕ
  s = get_or wires (1 + i) 0

  -- an open feed rests on the gate's decisions
  pub settling_open : 2 ≤ get_or bits s 0
      → Settling bits₀ rests₀ wires weights goal room why (set bits s (settled (get_or bits s 0) (get_or weights (1 + i) (pos 0)) goal room)) (set rests s why)
  settling_open o = rw (le-ltb (get_or bits s 0) 2 o) at (settling_next i l two there h)

  -- any other on what it did
  pub settling_known : get_or bits s 0 < 2
      → Settling bits₀ rests₀ wires weights goal room why (set bits s (settled (get_or bits s 0) (get_or weights (1 + i) (pos 0)) goal room)) rests
  settling_known o = rw (lt-ltb (get_or bits s 0) 2 o, set-get_or rests s 0) at (settling_next i l two there h)

-- ---- the rule of a gate, as the machine reads the threshold and the ends
module _ {bits rests wires : List ℕ} {weights : List ℤ} {lowest highest : ℤ} {up down : ℕ} (summable : Summable wires weights)
    (ends : EndsOf bits rests wires weights lowest highest up down) where
  pub threshold_is : to_z w32 (of_z w32 (get_or weights 0 (pos 0))) ≡ get_or weights 0 (pos 0)
  threshold_is = to_z-of_z (size_fits w32 _ (omega (arith, summable.small 0)))

  pub lowest_is : to_z w32 (of_z w32 lowest) ≡ lowest
  lowest_is = to_z-of_z (size_fits w32 lowest (omega (arith, ends.least_small)))

  pub highest_is : to_z w32 (of_z w32 highest) ≡ highest
  highest_is = to_z-of_z (size_fits w32 highest (omega (arith, ends.most_small)))

  pub forced_is : {own : ℕ} → own ≡ forced (to_z w32 (of_z w32 (get_or weights 0 (pos 0)))) (to_z w32 (of_z w32 lowest)) (to_z w32 (of_z w32 highest))
      → own ≡ forced_bit bits wires weights
  forced_is e = e ∙ rw (threshold_is, lowest_is, highest_is, ends.least_is, ends.most_is) refl

  pub room_is : (goal : ℕ) {room : ℤ}
      → room ≡ room_of goal (to_z w32 (of_z w32 (get_or weights 0 (pos 0)))) (to_z w32 (of_z w32 lowest)) (to_z w32 (of_z w32 highest))
      → room ≡ room_at bits wires weights goal
  room_is goal e = e ∙ rw (threshold_is, lowest_is, highest_is, ends.least_is, ends.most_is) refl

-- ---- what is shown shows something else
pub shown_so : {P Q : Type 0} (ending : Ending) → (P → Q) → IfRefuted ending P → IfRefuted ending Q
shown_so Refuted f p = f p
shown_so (Worth frame) f p = tt
shown_so Spent f p = tt
