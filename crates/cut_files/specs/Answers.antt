-- What the cut of a file answers. Document 02, No. 12. Nothing is proved here.
use Rattle.std.specs.Prelude.{List, ℕ}
use Rattle.basics.specs.Refusals.{Answer, bind}
use Rattle.pmn_opening.specs.Files.{open_net}
use Rattle.pmn_files.specs.Files.{file_in}
use Rattle.cut_theory.specs.Cut as cuts

-- the function for C, with a place for the length: as read, 18 where there is none, 8, 18
unfoldable pub cut_places : List ℕ → ℕ → ℕ → ℕ → Answer (List ℕ)
cut_places file output room places = bind (open_net file places 1) (λ N. bind (cuts.cut N output) (file_in room))
