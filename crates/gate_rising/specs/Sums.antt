-- The sums of some of a list of weights. Document 02, No. 8. Nothing is proved here.
use Rattle.std.specs.Prelude.{Bool, ◌&&◌, List, [], ◌∷◌, ℤ, pos, ◌+ℤ◌}

-- p holds of the sum of the weights that are 1, whichever they are
unfoldable pub every_sum : (ℤ → Bool) → List ℤ → Bool
every_sum p [] = p (pos 0)
every_sum p (w ∷ ws) = every_sum p ws && every_sum (λ z. p (w +ℤ z)) ws
