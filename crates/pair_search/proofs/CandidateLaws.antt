-- Which candidates qualify: by the scale, by the settings, by the dial. Assumes nothing.
use mathlib.Core.Path.{◌≡◌, ◌∙◌}
use mathlib.Core.Bool.{Bool, true, false}
use mathlib.Core.List.{List, [], ◌∷◌}
use Prim.Native.Nat.{ℕ, ◌^◌, ◌≤◌, ◌<◌}
use native.Mathlib.Omega.{arith}
use Rattle.basics.specs.Lists.{below, every}
use Rattle.basics.specs.TestLaws.{is_true, T_is, refuted, fails, between_of, of_between, every_of, of_every}
use Rattle.fold_theory.specs.Merge.{on_dial}
use Rattle.fold_theory.specs.Aligned.{Aligned, clears_on, clears_all, scale_fits, qualifies_on}
use Rattle.pair_theory.specs.declared.Alignment.{Alignment}
use Rattle.pair_theory.specs.Alignments.{aligned_in, Searchable}
use Rattle.pair_agreement.specs.GateLaws.{every_setting, one_short}

module _ (g : Alignment) where
  abbrev gates : Aligned
  gates = aligned_in g

  -- what a pair has to pass
  abbrev tests : ℕ → ℕ → List Bool
  tests k l = on_dial k ∷ on_dial l ∷ scale_fits gates k l ∷ clears_all gates k l ∷ []

  module _ (f : Searchable g) (k l : ℕ) where
    pub off_scale : scale_fits gates k l ≡ false → qualifies_on gates (record { k = k; l = l }) ≡ false
    unfolding qualifies_on
    off_scale e = refuted (every (tests k l)) (λ t. fails (scale_fits gates k l) e (every_of (tests k l) t).1.1.0)

    pub differing : (s : ℕ) → s < 2 ^ g.count → clears_on gates k l s ≡ false → qualifies_on gates (record { k = k; l = l }) ≡ false
    unfolding qualifies_on
    differing s h e = refuted (every (tests k l)) (λ t. fails (clears_all gates k l) (one_short g f k l s h e) (every_of (tests k l) t).1.1.1.0)

    pub qualified : 1 ≤ k → k ≤ 32 → 1 ≤ l → l ≤ 32 → scale_fits gates k l ≡ true → below (2 ^ g.count) (clears_on gates k l) ≡ true
        → qualifies_on gates (record { k = k; l = l }) ≡ true
    unfolding qualifies_on on_dial
    qualified k1 k32 l1 l32 e a =
        let dial_k = of_between 1 32 k (k1, k32) in
        let dial_l = of_between 1 32 l (l1, l32) in
        let all = T_is (clears_all gates k l) (every_setting g f k l ∙ a) in
        is_true (every (tests k l)) (of_every (tests k l) (dial_k, (dial_l, (T_is (scale_fits gates k l) e, (all, tt)))))

  -- no pair off the dial qualifies
  pub k_off_dial : (k l : ℕ) → 32 < k → qualifies_on gates (record { k = k; l = l }) ≡ false
  unfolding qualifies_on on_dial
  k_off_dial k l h = refuted (every (tests k l)) (λ t. absurd (omega (arith, between_of 1 32 k (every_of (tests k l) t).0)))

  pub l_off_dial : (k l : ℕ) → 32 < l → qualifies_on gates (record { k = k; l = l }) ≡ false
  unfolding qualifies_on on_dial
  l_off_dial k l h = refuted (every (tests k l)) (λ t. absurd (omega (arith, between_of 1 32 l (every_of (tests k l) t).1.0)))
