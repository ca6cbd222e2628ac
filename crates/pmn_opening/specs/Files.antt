-- What a function on a whole file begins with, and what it leaves: the read of the file, the places that are lent, and the length of bytes
-- that are put out. Nothing is proved here.
use Rattle.std.specs.Prelude.{Bool, List, [], ◌∷◌, ℕ, leb, length}
use Rattle.basics.specs.Refusals.{Answer, accepted, refused, ◌else◌, checks, bind}
use Rattle.network.specs.Threshold.{Net}
use Rattle.pmn_format.specs.Format.{Read, done, parse_file}

-- ---- reading first

unfoldable pub as_answer : Read Net → Answer Net
as_answer (Read.refused k) = refused k
as_answer (done N l) = accepted N

-- "as read"
unfoldable pub read_net : List ℕ → Answer Net
read_net file = as_answer (parse_file file)

-- "as read", then 18 where fewer places are lent than needed
unfoldable pub open_net : List ℕ → ℕ → ℕ → Answer Net
open_net file places needed = bind (read_net file) (λ N. checks ((leb needed places else 18) ∷ []) (accepted N))

-- ---- what a function leaves

-- n places are lent
unfoldable pub room : ℕ → List ℕ → Bool
room n lent = leb n (length lent)

-- bytes for `out`, whose length goes into place 0 of `answer`
unfoldable pub length_of : Answer (List ℕ) → Answer (List ℕ)
length_of (accepted bytes) = accepted (length bytes ∷ [])
length_of (refused k) = refused k
