-- The converter: its refusals, and the file of the network in the other version. Document 02, No. 8. Nothing is proved here.
use Rattle.std.specs.Prelude.{List, [], ◌∷◌, ℕ, leb, length}
use Rattle.basics.specs.Refusals.{Answer, accepted, refused, ◌else◌, checks, bind}
use Rattle.network.specs.Threshold.{Net}
use Rattle.pmn_format.specs.Format.{file_bytes}
use Rattle.pmn_opening.specs.Files.{read_net, open_net}
use Rattle.pmn_versions.specs.Versions.{convertible, converted}
use Rattle.pmn_converter.specs.declared.Converted.{Converted}

-- 25 "after all reading refusals and before the converter's 18"
unfoldable pub conversion : Net → ℕ → Answer (List ℕ)
conversion N room =
    checks ((convertible N.board else 25) ∷ (leb (length (file_bytes (converted N))) room else 18) ∷ []) (accepted (file_bytes (converted N)))

-- the converter: as read, 25, 18
unfoldable pub conversion_of : List ℕ → ℕ → Answer (List ℕ)
conversion_of file room = bind (read_net file) (λ N. conversion N room)

-- what the call answers
unfoldable pub as_converted : Answer (List ℕ) → Converted
as_converted (accepted bytes) = record { code = 0; length = length bytes }
as_converted (refused k) = record { code = k; length = 0 }

-- the function for C, with a place for the length: as read, 18 where there is none, 25, 18
unfoldable pub conversion_places : List ℕ → ℕ → ℕ → Answer (List ℕ)
conversion_places file room places = bind (open_net file places 1) (λ N. conversion N room)
