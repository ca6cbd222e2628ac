-- What the preview on a whole file answers. Nothing is proved here.
use Rattle.std.specs.Prelude.{List, ℕ, length}
use Rattle.basics.specs.Refusals.{Answer, accepted, bind}
use Rattle.network_report.specs.Size.{sizes}
use Rattle.fold_theory.specs.Collapse.{collapse}
use Rattle.pmn_opening.specs.Files.{open_net}

-- gates, cost and levels after a collapse: as read, 18, then the collapse's refusals
unfoldable pub preview_places : List ℕ → ℕ → List ℕ → Answer (List ℕ)
preview_places file signal answer = bind (open_net file (length answer) 3) (λ N. bind (collapse N signal) (λ M. accepted (sizes M)))
