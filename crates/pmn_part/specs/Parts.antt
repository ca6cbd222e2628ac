-- Internal: the part of a file that a gate has, by the file's own count bytes. Nothing is proved here.
use Rattle.std.specs.Prelude.{List, ℕ, ◌+◌, ◌*◌, get_or, take, drop}
use Rattle.pmn_format.proofs.PartLaws.{start_by}

-- the bytes of gate g
abbrev pub part_by : List ℕ → ℕ → List ℕ
part_by s g = take (5 + 5 * get_or s (start_by s g) 0) (drop (start_by s g) s)
