-- The highest score. Nothing is proved here.
use Rattle.std.specs.Prelude.{◌≡◌, false, List, [], ◌∷◌, ℕ, ◌≤◌, length, replicate}
use Rattle.basics.specs.Lists.{Each}
use Rattle.basics.specs.Refusals.{accepted}
use Rattle.network.specs.Threshold.{Net}
use Rattle.scorer_theory.specs.Scores.{running_scores}
use Rattle.scorer_theory.specs.NetworkGames.{pins_on, game}

-- no game of any network has a running score above 300; a frame that shows no pin, twelve times over, is twelve strikes, and these have ten
-- scores, of which the last is 300
pub record Highest (net : Net) : Type 0 where
  pub never_above : (frames felled : List ℕ) → game net frames ≡ accepted felled → Each (λ n. n ≤ 300) (running_scores felled)
  pub twelve_strikes : (x : ℕ) → 10 ≤ length net.outputs → pins_on net x ≡ accepted (replicate 10 false)
      → (game net (replicate 12 x) ≡ accepted (replicate 12 10))
      × (running_scores (replicate 12 10) ≡ 30 ∷ 60 ∷ 90 ∷ 120 ∷ 150 ∷ 180 ∷ 210 ∷ 240 ∷ 270 ∷ 300 ∷ [])
