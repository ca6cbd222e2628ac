-- Internal: what trying pairs of signals leaves of the joint. Nothing is proved here.
use Rattle.std.specs.Prelude.{◌≡◌, List, ℕ}
use Rattle.compare_theory.specs.Joint.{Joint}
use Rattle.compare_theory.specs.Wiring.{with_wires, Kept}

-- the joint has other wires, and what is known of it and of some signals is kept
pub record Merged (J : Joint) (outs : List ℕ) (J' : Joint) (outs' : List ℕ) : Type 0 where
  pub kept : Kept J outs J' outs'
  pub same : J' ≡ with_wires J J'.wires
