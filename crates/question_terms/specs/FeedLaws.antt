-- Laws of the feeds at a run of places: one place more, and two runs after each other. Assumes nothing.
use Rattle.std.specs.Prelude.{◌≡◌, ℕ, ◌+◌, ℤ}
use Rattle.std.proofs.Math.Path.{refl, ap}
use Rattle.std.proofs.Common.{◌∙◌, arith}
use mathlib.Core.List.{List, [], ◌∷◌, ◌++◌, map, map-append}
use Rattle.basics.specs.Lists.{range}
use Rattle.basics.specs.ListLaws.{range_append, range_more}
use Rattle.network.specs.Record.{feed_at, feeds_from}

module _ (ss : List ℕ) (ws : List ℤ) where
  -- no place
  pub feeds_none : (p : ℕ) → feeds_from ss ws p 0 ≡ []
  unfolding feeds_from range
  feeds_none p = refl

  -- one place more
  pub feeds_more : (n : ℕ) → feeds_from ss ws 0 (n + 1) ≡ feeds_from ss ws 0 n ++ (feed_at ss ws n ∷ [])
  unfolding feeds_from
  feeds_more n = ap (map (feed_at ss ws)) (range_more 0 n) ∙ map-append (feed_at ss ws) (range 0 n) ((0 + n) ∷ [])
      ∙ ap (λ (k : ℕ). map (feed_at ss ws) (range 0 n) ++ (feed_at ss ws k ∷ [])) (omega arith)

  -- two runs after each other
  pub feeds_split : (n m : ℕ) → feeds_from ss ws 0 (n + m) ≡ feeds_from ss ws 0 n ++ feeds_from ss ws (0 + n) m
  unfolding feeds_from
  feeds_split n m = ap (map (feed_at ss ws)) (range_append 0 n m) ∙ map-append (feed_at ss ws) (range 0 n) (range (0 + n) m)
