-- What the pair of two gates of a whole file answers, with the order as read, 18, then the pair's refusals. Nothing is proved here.
use Rattle.std.specs.Prelude.{List, [], ◌∷◌, ℕ, length}
use Rattle.basics.specs.Refusals.{Answer, accepted, bind}
use Rattle.fold_theory.specs.Pair.{pair}
use Rattle.pmn_opening.specs.Files.{open_net}

-- k and l
unfoldable pub pair_places : List ℕ → ℕ → ℕ → List ℕ → Answer (List ℕ)
pair_places file u v answer = bind (open_net file (length answer) 2) (λ N. bind (pair N u v) (λ p. accepted (p.k ∷ p.l ∷ [])))
