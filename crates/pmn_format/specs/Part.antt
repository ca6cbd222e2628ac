-- The bytes of one gate in its file: document 01, "that gate's bytes come back as a part of the file". Nothing is proved here.
use Rattle.std.specs.Prelude.{ℕ, ◌+◌, ◌-◌, List, [], ◌∷◌, length, take, drop}
use Rattle.basics.specs.Refusals.{Answer, accepted, ◌else◌, checks}
use Rattle.network.specs.Threshold.{Net}
use Rattle.network.specs.Limits.{is_gate}
use Rattle.network.specs.Changes.{gate_at}
use Rattle.pmn_format.specs.Format.{Read, refused, done, header_bytes, gate_bytes, gates_bytes, parse_file}

-- where gate g starts in the file of a network
abbrev pub gate_start : Net → ℕ → ℕ
gate_start N g = length (header_bytes N) + length (gates_bytes (take g N.gates))

-- the part of the file s that the gate with a signal has
abbrev pub part_in : List ℕ → Net → ℕ → List ℕ
part_in s N signal = take (length (gate_bytes (gate_at N signal))) (drop (gate_start N (signal - N.inputs)) s)

-- "file part as read, then 11"
abbrev pub part_of_read : List ℕ → ℕ → Read Net → Answer (List ℕ)
part_of_read s signal (refused k) = Answer.refused k
part_of_read s signal (done N l) = checks ((is_gate N signal else 11) ∷ []) (accepted (part_in s N signal))

unfoldable pub part_answer : List ℕ → ℕ → Answer (List ℕ)
part_answer s signal = part_of_read s signal (parse_file s)

-- "an empty part on refusal"
abbrev pub as_part : Answer (List ℕ) → List ℕ
as_part (accepted l) = l
as_part (Answer.refused k) = []
