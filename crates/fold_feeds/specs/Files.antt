-- What the call on a whole file answers. Nothing is proved here.
use Rattle.std.specs.Prelude.{List, ◌∷◌, ℕ, length}
use Rattle.basics.specs.Refusals.{Answer, accepted, bind}
use Rattle.pmn_opening.specs.Files.{open_net}
use Rattle.fold_feeds.specs.Feeds.{feeds}

-- the number of distinct feeds, and their signals
unfoldable pub distinct_places : List ℕ → ℕ → ℕ → List ℕ → Answer (List ℕ)
distinct_places file u v answer = bind (open_net file (length answer) 17) (λ N. bind (feeds N u v) (λ ds. accepted (length ds ∷ ds)))
