-- What `write` answers, as document 01 has it: "A refusal hands the record back unchanged (a refused read: blank), with 0 for every other
-- number, and touches no lent byte." Nothing is proved here.
use Rattle.std.specs.Prelude.{List, [], ◌∷◌, ℕ, leb, length}
use Rattle.basics.specs.Refusals.{Answer, accepted, refused, stored, ◌else◌, checks}
use Rattle.network.specs.Record.{net_of, sound_record}
use Rattle.network.specs.declared.Network.{Network}
use Rattle.pmn_format.specs.Format.{file_bytes}
use Rattle.pmn_writer.specs.declared.Written.{Written}

-- order 20, 18: the bytes of the file, where the lent bytes have room for it
unfoldable pub write_answer : Network → ℕ → Answer (List ℕ)
write_answer r room =
    checks ((sound_record r else 20) ∷ (leb (length (file_bytes (net_of r))) room else 18) ∷ []) (accepted (file_bytes (net_of r)))

-- "the answer is the file's length"
unfoldable pub as_written : Answer (List ℕ) → Written
as_written (accepted bytes) = record { code = 0; length = length bytes }
as_written (refused k) = record { code = k; length = 0 }

unfoldable pub written : Network → ℕ → Written
written r room = as_written (write_answer r room)

-- the lent bytes afterwards
unfoldable pub bytes_after : Network → List ℕ → List ℕ
bytes_after r out = stored (write_answer r (length out)) out
