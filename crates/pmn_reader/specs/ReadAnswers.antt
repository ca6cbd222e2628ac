-- Internal: what the readers of a file's gates and of a whole file answer, and where a gate is found, in the terms of the format. Nothing is proved
-- here.
use Rattle.std.specs.Prelude.{◌≡◌, List, [], ℕ, Result, Ok, Err}
use Rattle.basics.specs.Refusals.{accepted}
use Rattle.refusals.specs.declared.Refusal.{Refusal}
use Rattle.refusals.specs.Numbers.{number_of}
use Rattle.network.specs.Threshold.{Gate}
use Rattle.network.specs.Record.{layout}
use Rattle.network.specs.declared.Board.{Board}
use Rattle.network.specs.declared.Network.{Network}
use Rattle.pmn_format.specs.Format.{Read, refused, done, net_read}
use Rattle.pmn_format.specs.Part.{part_answer}
use Rattle.pmn_format.proofs.PartLaws.{GateFile}
use Rattle.pmn_part.specs.Parts.{part_by}

-- the record of a network by its gates, with no outputs
abbrev pub gates_record : Board → ℕ → List Gate → Network
gates_record board inputs gs = layout (net_read board inputs gs [])

-- the whole file is read, and its record is left in a lent place; or the number of a refusal
abbrev pub as_whole : Network → Result (Unit {0}) Refusal → Read Network
as_whole r (Ok u) = done r []
as_whole r (Err e) = refused (number_of e)

-- the gate of the file s that has the signal x is gate g
pub record PartAt (s : List ℕ) (x g : ℕ) : Type 0 where
  pub gate : GateFile s g
  pub answer : part_answer s x ≡ accepted (part_by s g)
