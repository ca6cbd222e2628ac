-- What the functions on a whole file answer that measure it, write it anew, or copy the bytes of one gate: a number, 0 or a refusal, and
-- what they leave in the lent numbers and bytes. Each begins with the read of its file. A refusal leaves everything as it was; places and
-- bytes beyond those named are untouched. Nothing is proved here.
use Rattle.std.specs.Prelude.{List, [], ◌∷◌, ℕ, leb, length}
use Rattle.basics.specs.Refusals.{Answer, accepted, ◌else◌, checks, bind}
use Rattle.network.specs.Threshold.{Net}
use Rattle.network.specs.Limits.{is_gate}
use Rattle.network_report.specs.Size.{sizes}
use Rattle.pmn_format.specs.Format.{file_bytes}
use Rattle.pmn_format.specs.Part.{part_in}
use Rattle.pmn_opening.specs.Files.{open_net, room}

-- gates, cost, levels
unfoldable pub report_places : List ℕ → List ℕ → Answer (List ℕ)
report_places file answer = bind (open_net file (length answer) 3) (λ N. accepted (sizes N))

-- the file of a network, where so many lent bytes have room for it, else 18
unfoldable pub file_in : ℕ → Net → Answer (List ℕ)
file_in room N = checks ((leb (length (file_bytes N)) room else 18) ∷ []) (accepted (file_bytes N))

-- the file written anew
unfoldable pub file_out : List ℕ → List ℕ → List ℕ → Answer (List ℕ)
file_out file out answer = bind (open_net file (length answer) 1) (file_in (length out))

-- the bytes of one gate
unfoldable pub part_out : List ℕ → ℕ → List ℕ → List ℕ → Answer (List ℕ)
part_out file signal out answer = bind (open_net file (length answer) 1) (λ N.
    checks ((is_gate N signal else 11) ∷ (room (length (part_in file N signal)) out else 18) ∷ [])
    (accepted (part_in file N signal)))
