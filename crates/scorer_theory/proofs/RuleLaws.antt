-- Laws of the rules: the pins felled, a ball that is not refused, and the output bits. Assumes nothing.
use Rattle.std.specs.Prelude.{◌≡◌, refl, Bool, true, false, [], ◌∷◌, ℕ, ◌+◌, ◌≤◌, leb, length}
use Rattle.std.proofs.Common.{true≢false, arith, leb-true}
use Rattle.std.proofs.lemmas.List.{length-map}
use Rattle.basics.specs.Refusals.{accepted, code_of, checks}
use Rattle.network.specs.Threshold.{Net, Assignment, output_bits, ones_of, values}
use Rattle.scorer_theory.specs.Rules.{Pins, has_raised_pin, felled_by, Game, ball}

-- the pins that a ball felled and those that it left are those before it
pub felled_ones : (before after : Pins) → length before ≡ length after → has_raised_pin before after ≡ false
    → felled_by before after + ones_of after ≡ ones_of before
unfolding has_raised_pin felled_by ones_of
felled_ones [] [] l h = refl
felled_ones [] (a ∷ after) l h = absurd (omega arith)
felled_ones (b ∷ before) [] l h = absurd (omega arith)
felled_ones (true ∷ before) (true ∷ after) l h = let ih = felled_ones before after (omega arith) h in omega arith
felled_ones (true ∷ before) (false ∷ after) l h = let ih = felled_ones before after (omega arith) h in omega arith
felled_ones (false ∷ before) (true ∷ after) l h = absurd (true≢false h)
felled_ones (false ∷ before) (false ∷ after) l h = let ih = felled_ones before after (omega arith) h in omega arith

-- a ball without a refusal
pub record BallAccepted (g : Game) (after : Pins) : Type 0 where
  pub pins : ball g after ≡ accepted after
  pub in_game : g.frame ≤ 10
  pub same_rack : has_raised_pin g.rack after ≡ false

pub ball_played : (g : Game) (after : Pins) → code_of (ball g after) ≡ 0 → BallAccepted g after
unfolding ball checks code_of
ball_played g after = go (leb g.frame 10) (has_raised_pin g.rack after) refl refl
  where
    go : (b c : Bool) → leb g.frame 10 ≡ b → has_raised_pin g.rack after ≡ c → code_of (ball g after) ≡ 0 → BallAccepted g after
    go false c e d h = absurd (let z : ◌≡◌ {A = ℕ} 28 0 = rw e at h in omega arith)
    go true true e d h = absurd (let z : ◌≡◌ {A = ℕ} 29 0 = rw (e, d) at h in omega arith)
    go true false e d h = record { pins = rw (e, d); in_game = leb-true g.frame 10 e; same_rack = d }

-- a network has a bit for each output
pub bits_many : (N : Net) (ρ : Assignment) → length (output_bits N ρ) ≡ length N.outputs
unfolding output_bits
bits_many N ρ = length-map N.outputs (values N ρ)
